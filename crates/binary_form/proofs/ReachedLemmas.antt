-- What is reached by the links of unit steps is what the symbols reach.
use Rattle.std.proofs.Common.{ℕ, ◌<◌, ◌↔◌, List, Contains, arith}
use Rattle.spec_grammar.specs.Grammars.{Grammar, HasOwnSymbols, symbol_count}
use Rattle.binary_form.specs.Symbols.{BinarySymbol}
use Rattle.binary_form.specs.BinaryForm.{IsNumberOf, IsReachedNumber}
use Rattle.binary_form.specs.NumberSteps.{StepNumber}
use Rattle.number_graph.specs.Graphs.{HasLink, ReachesBy, stay, step, AreLinksWithin, AreReached}
use Rattle.binary_form.specs.RowLinks.{AreUnitSteps}
use Rattle.binary_form.proofs.NumberLemmas.{numbers_used}
use Rattle.number_graph.proofs.ReachLemmas.{reaches_more}
use Rattle.binary_form.proofs.ReachLemmas.{reaches_numbers, step_below}

module _ (g : Grammar) (links : List (List ℕ)) (steps : AreUnitSteps g links) where
  -- unit steps lead to numbers of symbols
  pub steps_within : AreLinksWithin links
  steps_within m n has = omega (arith, (step_below g m n ((steps.exact m n).0 has)).1, steps.count)

  -- the links of unit steps reach numbers of symbols
  pub reached_below :
      (n m : ℕ) → n < symbol_count g → ReachesBy (HasLink links) n m → m < symbol_count g
  reached_below n m below stay = below
  reached_below n m below (step {b = l} before last) =
      (step_below g l m ((steps.exact l m).0 last)).1

  -- the numbers that the links reach from a number are those that the symbol of this number reaches
  pub reached_numbers :
      (n : ℕ) (numbers : List ℕ)
      → HasOwnSymbols g → n < symbol_count g → AreReached links n numbers → (m : ℕ)
      → Contains numbers m ↔ ((a : BinarySymbol) × IsNumberOf g a n × IsReachedNumber g a m)
  reached_numbers n numbers own below are m = (
    (λ has.
        let a = numbers_used g n below in
        let is : IsNumberOf g a.0 n = (a.1, a.2) in
        let reached = reaches_more (HasLink links) (StepNumber g) n m (λ k l. (steps.exact k l).0) ((are.exact m).0 has) in
        (a.0, is, (reaches_numbers g a.0 n m own is).1 reached)),
    (λ x.
        let reached = (reaches_numbers g x.0 n m own x.1).0 x.2 in
        (are.exact m).1 (reaches_more (StepNumber g) (HasLink links) n m (λ k l. (steps.exact k l).1) reached)),
  )
