use Rattle.std.proofs.Common.{ℕ, ◌<◌, List, subst, inl, inr, arith}
use Rattle.std.specs.List.{Contains}
use Rattle.std.proofs.lemmas.List.{take_all}
use Rattle.number_graph.proofs.DerivationLemmas.{front_or_last}
use Rattle.number_graph.proofs.tests.are_below.Goals as goal

pub loop-number-preserved : goal.loop-number-preserved
loop-number-preserved c n has =
    elim (front_or_last c.args.numbers.now c.loop-number.number-index c.loop-number-test.true n has) [
      | inl before ↦ c.loop-number.invariant n before
      | inr same ↦ omega (arith, same, c.if-number-total.false)
    ]

pub returns : goal.returns
returns c is =
    let AreBelow : List ℕ → Type 0 = λ xs. (n : ℕ) → Contains xs n → n < c.args.total in
    subst AreBelow (take_all c.loop-number.number-index c.args.numbers.now c.loop-number-test.false) c.loop-number.invariant
