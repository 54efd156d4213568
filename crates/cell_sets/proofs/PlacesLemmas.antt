-- Laws of places in lists in rising order.
use Rattle.std.proofs.Common.{◌≡◌, ℕ, ◌+◌, ◌<◌, ◌≤◌, ◌⊎◌, List, ◌++◌, length, get_or, take, drop, sym, ◌∙◌, inl, inr, arith}
use Rattle.std.specs.List.{Contains, insert}
use Rattle.std.specs.Prelude.{Result, Ok, Err}
use Rattle.std.specs.Ordering.{nat_cmp}
use Rattle.std.specs.List.Sorted.{IsBinarySearchResult}
use Rattle.std.proofs.lemmas.Bool.{cases_lt}
use Rattle.std.proofs.lemmas.List.Sorted.{searched}
use Rattle.cell_sets.specs.Cells.{IsRising, AddsSymbol}
use Rattle.cell_sets.specs.Places.{IsGapAt, IsPlaceOf}
use Rattle.std.proofs.lemmas.Grind.{get_or_default_zero}
use Rattle.std.proofs.lemmas.List.{take-append-drop, get_or-take, get_or-drop, length-take-le, length-drop}
use Rattle.cell_sets.proofs.RisingLemmas.{rising_between, has_between}

module _ (xs : List ℕ) (symbol at : ℕ) (gap : IsGapAt xs symbol at) where
  -- a symbol is not in a list that has a gap for it
  pub missing : Contains xs symbol → ⊥
  missing (k, within, at_k) =
      let same : get_or xs k 0 ≡ symbol = sym (get_or_default_zero xs k symbol within) ∙ at_k in
      elim (cases_lt k at) [
        | inl front ↦ let below : get_or xs k 0 < symbol = gap.below k front in omega (arith, same)
        | inr rest ↦ let above : symbol < get_or xs k 0 = gap.above k rest within in omega (arith, same)
      ]

  -- what stands before the gap is below the symbol
  front_below : (s : ℕ) → Contains (take at xs) s → s < symbol
  front_below s (k, within, at_k) =
      let short : k < at = omega (arith, length-take-le at xs, within) in
      let same : get_or xs k 0 ≡ s =
      sym (get_or-take at xs k 0 short) ∙ sym (get_or_default_zero (take at xs) k s within) ∙ at_k in
      let below : get_or xs k 0 < symbol = gap.below k short in omega (arith, same)

  -- what stands behind the gap is above the symbol
  rest_above : (s : ℕ) → Contains (drop at xs) s → symbol < s
  rest_above s (k, within, at_k) =
      let long : at + k < length xs = omega (arith, length-drop at xs, within) in
      let same : get_or xs (at + k) 0 ≡ s =
      sym (get_or-drop at xs k 0) ∙ sym (get_or_default_zero (drop at xs) k s within) ∙ at_k in
      let above : symbol < get_or xs (at + k) 0 = gap.above (at + k) (omega arith) long in
      omega (arith, same)

  -- a symbol put into its gap is added
  pub adds_symbol : AddsSymbol xs (insert xs at symbol) symbol
  adds_symbol s =
      let has = has_between (take at xs) (drop at xs) symbol s in rw (take-append-drop at xs) at has

  -- a symbol put into its gap keeps the order
  pub rising_insert : IsRising xs → IsRising (insert xs at symbol)
  rising_insert rising =
      let whole : IsRising (take at xs ++ drop at xs) = rw (take-append-drop at xs) rising in
      rising_between (take at xs) (drop at xs) symbol whole front_below rest_above

-- a list in rising order never falls
never_falls :
    (xs : List ℕ) → IsRising xs → (i j : ℕ) → i ≤ j → j < length xs
    → get_or xs i 0 ≤ get_or xs j 0
never_falls xs rising i j order within =
    let side : (i < j) ⊎ (i ≡ j) = grind arith in
    elim side [
      | inl before ↦ let below : get_or xs i 0 < get_or xs j 0 = rising i j before within in omega arith
      | inr same ↦ rw same (omega arith)
    ]

-- what a binary search answers in a list in rising order is the symbol's place
pub place_searched :
    (xs : List ℕ) (symbol : ℕ) (place : Result ℕ ℕ) → IsRising xs
    → IsBinarySearchResult (λ y. nat_cmp y symbol) xs place → IsPlaceOf xs symbol place
place_searched xs symbol (Ok at) rising search =
    searched xs symbol (Ok at) search (never_falls xs rising)
place_searched xs symbol (Err at) rising search =
    let found = searched xs symbol (Err at) search (never_falls xs rising) in
    record { within = found.0; below = found.1; above = found.2 }
