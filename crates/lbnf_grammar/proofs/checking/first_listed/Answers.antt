use Rattle.std.proofs.Common.{sym, ◌∙◌}
use Rattle.lbnf_grammar.specs.Checking.{IsListed, IsUnlisted}
use Rattle.lbnf_grammar.proofs.CheckingLemmas.{first_bad, more_good, good_all, told_there, told_absent}
use Rattle.lbnf_grammar.proofs.checking.first_listed.Goals as goal

pub returns-then-branch : goal.returns-then-branch
returns-then-branch c =
    first_bad (IsListed c.args.known.now) (IsUnlisted c.args.known.now) c.args.names.now
    c.loop-name.name-index c.name-item.result c.loop-name-test.true c.name-item.is c.loop-name.invariant (λ other unlisted listed. unlisted listed)
    (told_there c.args.known.now c.name-item.result (sym c.in_ok-has_text.ensures ∙ c.if-branch.true))

pub loop-name-preserved : goal.loop-name-preserved
loop-name-preserved c =
    more_good (IsListed c.args.known.now) (IsUnlisted c.args.known.now) c.args.names.now
    c.loop-name.name-index c.name-item.result c.loop-name-test.true c.name-item.is c.loop-name.invariant
    (told_absent c.args.known.now c.name-item.result (sym c.in_ok-has_text.ensures ∙ c.if-branch.false))

pub returns : goal.returns
returns c = good_all (IsUnlisted c.args.known.now) c.args.names.now c.loop-name.name-index c.loop-name-test.false c.loop-name.invariant
