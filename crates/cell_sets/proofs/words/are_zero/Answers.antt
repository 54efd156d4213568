use Rattle.std.proofs.Common.{refl, arith, rules}
use Rattle.std.proofs.lemmas.Bool.{false≢true}
use Rattle.cell_sets.proofs.WordsLemmas.{none_set, some_set}
use Rattle.cell_sets.proofs.words.are_zero.Goals as goal

pub returns-then-words-k-ne0 : goal.returns-then-words-k-ne0
returns-then-words-k-ne0 c = (
  (λ is. absurd (false≢true is)),
  (λ none. absurd (some_set c.args.words.now c.loop-k.k (omega (arith, c.if-words-k-ne0.true)) (search rules) none)),
)

pub returns : goal.returns
returns c = (
  (λ _. none_set c.args.words.now
      (λ k within. c.loop-k.invariant k (omega (arith, within, c.loop-k-test.false)))),
  (λ _. refl),
)
