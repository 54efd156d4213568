-- Laws of lists in rising order.
use Rattle.std.proofs.Common.{◌≡◌, ℕ, zero, suc, ◌<◌, ◌⊎◌, ◌↔◌, List, [], ◌∷◌, get_or, refl, sym, ◌∙◌, ap, inl, inr, arith}
use Rattle.std.specs.List.{Contains}
use Rattle.std.proofs.lemmas.Grind.{get_or_default_zero}
use Rattle.cell_sets.specs.Cells.{IsRising, RisingListsAreSets}

-- what stands behind the first number of a list in rising order is in rising order
pub rising_tail : (x : ℕ) (xs : List ℕ) → IsRising (x ∷ xs) → IsRising xs
rising_tail x xs rising i j order within = rising (suc i) (suc j) (omega arith) (omega arith)

-- the first number of a list in rising order is below those behind it
pub first_below : (x : ℕ) (xs : List ℕ) (s : ℕ) → IsRising (x ∷ xs) → Contains xs s → x < s
first_below x xs s rising (n, within, at) =
    let below : x < get_or xs n 0 = rising 0 (suc n) (omega arith) (omega arith) in
    let same : get_or xs n 0 ≡ s = sym (get_or_default_zero xs n s within) ∙ at in
    rw same at below

-- a list has its first number
pub has_first : (x : ℕ) (xs : List ℕ) → Contains (x ∷ xs) x
has_first x xs = (0, omega arith, refl)

-- a list has what stands behind its first number
pub has_behind : (x : ℕ) (xs : List ℕ) (s : ℕ) → Contains xs s → Contains (x ∷ xs) s
has_behind x xs s (n, within, at) = (suc n, omega arith, at)

-- what a list has is its first number or stands behind it
pub first_or_behind : (x : ℕ) (xs : List ℕ) (s : ℕ) → Contains (x ∷ xs) s → (s ≡ x) ⊎ Contains xs s
first_or_behind x xs s (zero, within, at) = inl (sym at)
first_or_behind x xs s (suc n, within, at) = inr (n, omega arith, at)

-- where two lists begin with the same number, the first is in rising order and the second has all
-- that the first has, what stands behind the first number of the one does so in the other
same_behind :
    (x y : ℕ) (xs ys : List ℕ) → x ≡ y → IsRising (x ∷ xs)
    → ((s : ℕ) → Contains (x ∷ xs) s → Contains (y ∷ ys) s)
    → (s : ℕ) → Contains xs s → Contains ys s
same_behind x y xs ys e rising to s has =
    elim (first_or_behind y ys s (to s (has_behind x xs s has))) [
      | inl same ↦ let below : x < s = first_below x xs s rising has in absurd (omega arith)
      | inr behind ↦ behind
    ]

-- the first of two lists in rising order with the same numbers are the same
first_same :
    (x y : ℕ) (xs ys : List ℕ) → IsRising (x ∷ xs) → IsRising (y ∷ ys)
    → ((s : ℕ) → Contains (x ∷ xs) s ↔ Contains (y ∷ ys) s) → x ≡ y
first_same x y xs ys rising_x rising_y same =
    elim (first_or_behind y ys x ((same x).0 (has_first x xs))) [
      | inl e ↦ e
      | inr behind_y ↦ elim (first_or_behind x xs y ((same y).1 (has_first y ys))) [
        | inl e ↦ sym e
        | inr behind_x ↦
            let below : y < x = first_below y ys x rising_y behind_y in
            let above : x < y = first_below x xs y rising_x behind_x in
            absurd (omega arith)
      ]
    ]

-- two lists in rising order with the same numbers are the same list
pub rising_lists_are_sets : RisingListsAreSets
rising_lists_are_sets [] [] rising_x rising_y same = refl
rising_lists_are_sets [] (y ∷ ys) rising_x rising_y same =
    let has = (same y).1 (has_first y ys) in let within : has.0 < 0 = has.1 in absurd (omega arith)
rising_lists_are_sets (x ∷ xs) [] rising_x rising_y same =
    let has = (same x).0 (has_first x xs) in let within : has.0 < 0 = has.1 in absurd (omega arith)
rising_lists_are_sets (x ∷ xs) (y ∷ ys) rising_x rising_y same =
    let e : x ≡ y = first_same x y xs ys rising_x rising_y same in
    let to = same_behind x y xs ys e rising_x (λ s. (same s).0) in
    let from = same_behind y x ys xs (sym e) rising_y (λ s. (same s).1) in
    let behind : xs ≡ ys =
    rising_lists_are_sets xs ys (rising_tail x xs rising_x) (rising_tail y ys rising_y)
    (λ s. (to s, from s)) in
    ap (λ n. n ∷ xs) e ∙ ap (λ l. y ∷ l) behind
