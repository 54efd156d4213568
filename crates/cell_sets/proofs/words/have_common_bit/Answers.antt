use Rattle.std.proofs.Common.{refl, arith, rules}
use Rattle.std.proofs.lemmas.Bool.{false≢true}
use Rattle.cell_sets.proofs.WordsLemmas.{bits_meet, none_meet}
use Rattle.cell_sets.proofs.words.have_common_bit.Goals as goal

pub returns-then-left-k-ne0 : goal.returns-then-left-k-ne0
returns-then-left-k-ne0 c = (
  (λ _. bits_meet c.args.left.now c.args.right.now c.loop-k.k
      (omega (arith, c.if-left-k-ne0.true)) (search rules)),
  (λ _. refl),
)

pub returns : goal.returns
returns c = (
  (λ is. absurd (false≢true is)),
  (λ meet. absurd (none_meet c.args.left.now c.args.right.now
      (λ k within. c.loop-k.invariant k (omega (arith, within, c.loop-k-test.false))) meet)),
)
