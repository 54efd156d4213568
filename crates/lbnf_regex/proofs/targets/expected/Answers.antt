-- The start is entered, and every other state goes on from its positions.
use Rattle.std.proofs.Common.{map}
use Rattle.spec_automata.specs.Encoding.{one_of_these}
use Rattle.lbnf_regex.specs.Patterns.{bytes_of_pattern}
use Rattle.lbnf_regex.proofs.SetLemmas.{are_expected, are_small, empty_list}
use Rattle.lbnf_regex.proofs.targets.expected.Goals as goal

pub returns-clause-ok : goal.returns-clause-ok
returns-clause-ok c =
    let adds = rw c.new-expected.ensures at c.in_ok-expect_any.ensures in
    are_expected (one_of_these (map bytes_of_pattern c.args.kinds.now)) c.args.state.now c.is_empty.result c.expect_any.new.into
    (empty_list c.args.state.now c.is_empty.result c.is_empty.ensures) adds

pub returns-clause-small : goal.returns-clause-small
returns-clause-small c =
    let x = one_of_these (map bytes_of_pattern c.args.kinds.now) in
    let adds = rw c.new-expected.ensures at c.in_ok-expect_any.ensures in
    are_small x c.args.state.now c.expect_any.new.into c.requires.room
    (are_expected x c.args.state.now c.is_empty.result c.expect_any.new.into
    (empty_list c.args.state.now c.is_empty.result c.is_empty.ensures) adds)
