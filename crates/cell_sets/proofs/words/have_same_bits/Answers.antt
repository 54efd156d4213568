use Rattle.std.proofs.Common.{refl, arith, rules}
use Rattle.std.proofs.lemmas.Bool.{false≢true}
use Rattle.cell_sets.proofs.WordsLemmas.{same_words, same_symbols}
use Rattle.cell_sets.proofs.words.have_same_bits.Goals as goal

pub returns-then-left-k : goal.returns-then-left-k
returns-then-left-k c = (
  (λ is. absurd (false≢true is)),
  (λ same. absurd (c.if-left-k.true
      (same_words c.args.left.now c.args.right.now c.loop-k.k (search rules) (search rules) same))),
)

pub returns : goal.returns
returns c = (
  (λ _. same_symbols c.args.left.now c.args.right.now c.requires
      (λ k within. c.loop-k.invariant k (omega (arith, within, c.loop-k-test.false)))),
  (λ _. refl),
)
