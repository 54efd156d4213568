use Rattle.std.proofs.Common.{refl}
use Rattle.std.proofs.lemmas.Bool.{false≢true}
use Rattle.std.proofs.lemmas.List.{take_all}
use Rattle.cell_sets.proofs.CommonLemmas.{common_taken, common_left}
use Rattle.cell_sets.proofs.comparing.common_of.Goals.{then-has_in+in_ok-push, else-has_in}
use Rattle.cell_sets.proofs.comparing.common_of.Goals as goal

pub loop-i-preserved : goal.loop-i-preserved
loop-i-preserved c = elim c.if-has_in.branch [
  | then-has_in+in_ok-push w ↦ rw (w.common-is, w.in_ok-push.ensures.items)
      (common_taken c.args.left.now c.args.right.now c.loop-i.common.items c.loop-i.i
      c.loop-i-test.true c.requires.left c.loop-i.invariant (w.if-has_in.ensures.0 refl))
  | else-has_in w ↦ rw w.common-is
      (common_left c.args.left.now c.args.right.now c.loop-i.common.items c.loop-i.i
      c.loop-i-test.true c.requires.left c.loop-i.invariant (λ has. false≢true (w.if-has_in.ensures.1 has)))
]

pub returns-clause-ok : goal.returns-clause-ok
returns-clause-ok c = rw (take_all c.loop-i.i c.args.left.now c.loop-i-test.false) at c.loop-i.invariant.is
