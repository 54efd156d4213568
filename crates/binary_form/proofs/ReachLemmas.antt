-- What a symbol reaches by unit steps, and what its number reaches.
use Rattle.std.proofs.Common.{◌≡◌, ℕ, ◌<◌, ◌↔◌, refl, sym, ◌∙◌, subst}
use Rattle.spec_grammar.specs.Grammars.{Grammar, HasOwnSymbols, symbol_count}
use Rattle.binary_form.specs.Symbols.{BinarySymbol, IsBinarySymbolOf, symbol_number}
use Rattle.binary_form.specs.UnitSteps.{UnitStep, whole_side, last_item, passed_item, Reaches}
use Rattle.binary_form.specs.BinaryForm.{IsNumberOf, IsReachedNumber}
use Rattle.binary_form.specs.NumberSteps.{StepNumber}
use Rattle.number_graph.specs.Graphs.{ReachesBy, stay, step}
use Rattle.binary_form.proofs.ItemLemmas.{suffix_symbol}
use Rattle.binary_form.proofs.NumberLemmas.{number_is_one, numbers_below}

module _ (g : Grammar) where
  -- a unit step goes to a symbol of the grammar
  pub step_symbol :
      (a b : BinarySymbol)
      → HasOwnSymbols g → UnitStep g.rules a b → IsBinarySymbolOf g b
  step_symbol a b own (whole_side {r = r} {rule = rule} is) = (own r rule is).0
  step_symbol a b own (last_item {r = r} {p = p} {s = s} {behind = behind} has empty) =
      suffix_symbol g r p s behind has
  step_symbol a b own (passed_item {r = r} {p = p} {s = s} {behind = behind} has empty) =
      suffix_symbol g r p s behind has

  -- a unit step from a symbol of the grammar is one from its number
  pub number_step :
      (a b : BinarySymbol)
      → HasOwnSymbols g → IsBinarySymbolOf g a → UnitStep g.rules a b
      → StepNumber g (symbol_number g a) (symbol_number g b)
  number_step a b own is next = (a, b, (is, refl), (step_symbol a b own next, refl), next)

  -- a symbol of the grammar reaches symbols of the grammar
  pub reaches_symbol :
      (a b : BinarySymbol)
      → HasOwnSymbols g → IsBinarySymbolOf g a → Reaches g.rules a b → IsBinarySymbolOf g b
  reaches_symbol a b own is stay = is
  reaches_symbol a c own is (step {b = b} before last) = step_symbol b c own last

  -- what reaches the number of a symbol reaches the symbol
  pub reaches_of_number :
      (a b : BinarySymbol) (n : ℕ)
      → IsNumberOf g b n → IsReachedNumber g a n → Reaches g.rules a b
  reaches_of_number a b n is x =
      let same : x.0 ≡ b = number_is_one g x.0 b n x.1 is in
      rw same at x.2

  -- steps are between numbers of symbols
  pub step_below :
      (m n : ℕ) → StepNumber g m n → (m < symbol_count g) × (n < symbol_count g)
  step_below m n x = (
    subst Below x.2.1 (numbers_below g x.0 x.2.0),
    subst Below x.3.1 (numbers_below g x.1 x.3.0),
  )
    where
      Below : ℕ → Type 0
      Below k = k < symbol_count g

  -- the number of what a symbol reaches is reached by its number
  number_reached :
      (a b : BinarySymbol) (m n : ℕ)
      → HasOwnSymbols g → IsNumberOf g a m → IsNumberOf g b n → Reaches g.rules a b
      → ReachesBy (StepNumber g) m n
  number_reached a b m n own is_a is_b stay =
      let Reached : ℕ → Type 0 = λ k. ReachesBy (StepNumber g) m k in
      subst Reached (sym is_a.1 ∙ is_b.1) stay
  number_reached a c m n own is_a is_c (step {b = b} before last) =
      let is : IsNumberOf g b (symbol_number g b) = (reaches_symbol a b own is_a.0 before, refl) in
      step (number_reached a b m (symbol_number g b) own is_a is before) (b, c, is, is_c, last)

  -- a symbol reaches the symbols whose numbers its number reaches
  symbol_reached :
      (a : BinarySymbol) (m n : ℕ)
      → IsNumberOf g a m → ReachesBy (StepNumber g) m n → IsReachedNumber g a n
  symbol_reached a m n is stay = (a, is, stay)
  symbol_reached a m n is (step {b = k} before last) =
      let x = symbol_reached a m k is before in
      let same : x.0 ≡ last.0 = number_is_one g x.0 last.0 k x.1 last.2 in
      (last.1, last.3, step (rw same at x.2) last.4)

  -- a symbol reaches just the numbers that its number reaches
  pub reaches_numbers :
      (a : BinarySymbol) (m n : ℕ)
      → HasOwnSymbols g → IsNumberOf g a m
      → IsReachedNumber g a n ↔ ReachesBy (StepNumber g) m n
  reaches_numbers a m n own is = (
    (λ x. number_reached a x.0 m n own is x.1 x.2),
    symbol_reached a m n is,
  )
