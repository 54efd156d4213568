-- One mark stands behind those so far.
use Rattle.std.proofs.Common.{ℕ, List, map, take, get_or, subst}
use Rattle.std.specs.List.{Contains}
use Rattle.std.proofs.lemmas.List.{take_more, take_all}
use Rattle.lbnf_regex.specs.Owners.{AddsOwned}
use Rattle.lbnf_regex.specs.Patterns.{bytes_of_pattern}
use Rattle.lbnf_regex.proofs.OwnerLemmas.{owned_more, adds_owned}
use Rattle.lbnf_regex.proofs.marked.expect_marked.Goals as goal

pub loop-mark-preserved : goal.loop-mark-preserved
loop-mark-preserved c =
    let xs = map bytes_of_pattern c.args.kinds.now in
    let marks = c.args.marks.now in
    let i = c.loop-mark.mark-index in
    record {
      adds =
          rw (take_more marks i 0 c.loop-mark-test.true)
          (owned_more xs (Contains marks) (take i marks) (get_or marks i 0) c.args.into.now c.loop-mark.into
          c.expect_owned.new.into c.loop-mark.invariant.adds c.in_ok-last.ensures.adds);
      has = c.in_ok-last.ensures.last;
    }

pub returns : goal.returns
returns c =
    let xs = map bytes_of_pattern c.args.kinds.now in
    let marks = c.args.marks.now in
    adds_owned xs marks c.args.into.now c.loop-mark.into
    (subst (λ (qs : List ℕ). AddsOwned xs (Contains marks) qs c.args.into.now c.loop-mark.into)
    (take_all c.loop-mark.mark-index marks c.loop-mark-test.false) c.loop-mark.invariant.adds)
