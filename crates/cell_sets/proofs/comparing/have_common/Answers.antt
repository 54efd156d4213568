use Rattle.std.proofs.Common.{get_or, below_more, arith}
use Rattle.std.proofs.lemmas.Bool.{false≢true}
use Rattle.std.specs.List.{Contains}
use Rattle.cell_sets.proofs.CommonLemmas.{none_meet}
use Rattle.cell_sets.proofs.comparing.have_common.Goals as goal

pub loop-i-preserved : goal.loop-i-preserved
loop-i-preserved c =
    below_more (λ n. Contains c.args.right.now (get_or c.args.left.now n 0) → ⊥) c.loop-i.i
    c.loop-i.invariant (λ has. false≢true (c.if-has_in.ensures.1 has))

pub returns : goal.returns
returns c = (
  (λ is. absurd (false≢true is)),
  (λ meet. absurd (none_meet c.args.left.now c.args.right.now
      (λ n within. c.loop-i.invariant n (omega (arith, within))) meet)),
)
