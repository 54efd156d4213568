-- Laws of lists in rising order that stand one before the other, and of what they have.
use Rattle.std.proofs.Common.{◌≡◌, ℕ, ◌+◌, ◌-◌, ◌<◌, ◌⊎◌, ◌↔◌, List, [], ◌∷◌, ◌++◌, length, get_or, refl, inl, inr, arith}
use Rattle.std.specs.List.{Contains}
use Rattle.std.proofs.lemmas.Bool.{cases_lt}
use Rattle.std.proofs.lemmas.List.{get_or_append_left, get_or-append_right, length-append}
use Rattle.std.proofs.lemmas.List.Elements.{Contains-get_or, Contains-append_left, Contains-append_right, Contains-append_cases}
use Rattle.cell_sets.specs.Cells.{IsRising}
use Rattle.cell_sets.proofs.CellsLemmas.{rising_tail, first_below, has_first, has_behind, first_or_behind}

-- each number of the first list is below each of the second
abbrev pub IsBefore : List ℕ → List ℕ → Type 0
IsBefore xs ys = (s t : ℕ) → Contains xs s → Contains ys t → s < t

-- two lists in rising order, the first before the second, are one in rising order
pub rising_append :
    (xs ys : List ℕ) → IsRising xs → IsRising ys → IsBefore xs ys → IsRising (xs ++ ys)
rising_append xs ys rising_x rising_y before i j order within =
    let n : ℕ = length xs in
    let long : length (xs ++ ys) ≡ n + length ys = length-append xs ys in
    elim (cases_lt j n) [
      | inl in_x ↦ rw (get_or_append_left xs ys 0 i (omega arith), get_or_append_left xs ys 0 j in_x)
          (rising_x i j order in_x)
      | inr in_y ↦ elim (cases_lt i n) [
        | inl in_x ↦ rw (get_or_append_left xs ys 0 i in_x, get_or-append_right xs ys n j 0 refl in_y)
            (before (get_or xs i 0) (get_or ys (j - n) 0) (Contains-get_or xs i 0 in_x)
            (Contains-get_or ys (j - n) 0 (omega arith)))
        | inr both_y ↦
            rw (get_or-append_right xs ys n i 0 refl both_y, get_or-append_right xs ys n j 0 refl in_y)
            (rising_y (i - n) (j - n) (omega arith) (omega arith))
      ]
    ]

-- the front of a list in rising order is in rising order
pub rising_front : (xs ys : List ℕ) → IsRising (xs ++ ys) → IsRising xs
rising_front xs ys rising i j order within =
    let long : length (xs ++ ys) ≡ length xs + length ys = length-append xs ys in
    rw (get_or_append_left xs ys 0 i (omega arith), get_or_append_left xs ys 0 j within)
    at (rising i j order (omega arith))

-- the rest of a list in rising order is in rising order
pub rising_rest : (xs ys : List ℕ) → IsRising (xs ++ ys) → IsRising ys
rising_rest [] ys rising = rising
rising_rest (x ∷ xs) ys rising = rising_rest xs ys (rising_tail x (xs ++ ys) rising)

-- the front of a list in rising order is before the rest
pub rising_before : (xs ys : List ℕ) → IsRising (xs ++ ys) → IsBefore xs ys
rising_before [] ys rising s t (n, within, at) has = absurd (omega (arith, within))
rising_before (x ∷ xs) ys rising s t has_s has_t = elim (first_or_behind x xs s has_s) [
  | inl first ↦
      let below : x < t =
      first_below x (xs ++ ys) t rising (Contains-append_right xs ys t has_t) in omega (arith, first)
  | inr behind ↦ rising_before xs ys (rising_tail x (xs ++ ys) rising) s t behind has_t
]

-- a list in rising order stays so with a number before it that is below all of it
pub rising_first :
    (y : ℕ) (ys : List ℕ) → IsRising ys → ((t : ℕ) → Contains ys t → y < t) → IsRising (y ∷ ys)
rising_first y ys rising above = rising_append (y ∷ []) ys one rising before where
  one : IsRising (y ∷ [])
  one i j order within = absurd (omega arith)

  before : IsBefore (y ∷ []) ys
  before s t first has = elim (first_or_behind y [] s first) [
    | inl same ↦ let below : y < t = above t has in omega (arith, same)
    | inr (n, within, at) ↦ absurd (omega (arith, within))
  ]

-- a list in rising order stays so with a number between what is below it and what is above it
pub rising_between :
    (xs ys : List ℕ) (y : ℕ) → IsRising (xs ++ ys)
    → ((s : ℕ) → Contains xs s → s < y) → ((t : ℕ) → Contains ys t → y < t)
    → IsRising (xs ++ y ∷ ys)
rising_between xs ys y rising below above =
    let rest : IsRising (y ∷ ys) = rising_first y ys (rising_rest xs ys rising) above in
    let before : IsBefore xs (y ∷ ys) = λ s t has_s has_t. elim (first_or_behind y ys t has_t) [
      | inl first ↦ let low : s < y = below s has_s in omega (arith, first)
      | inr behind ↦ rising_before xs ys rising s t has_s behind
    ] in
    rising_append xs (y ∷ ys) (rising_front xs ys rising) rest before

-- with a number put between, a list has what it had, and the number
pub has_between :
    (xs ys : List ℕ) (y s : ℕ) → Contains (xs ++ y ∷ ys) s ↔ (Contains (xs ++ ys) s ⊎ (s ≡ y))
has_between xs ys y s = (
  (λ has. elim (Contains-append_cases xs (y ∷ ys) s has) [
    | inl front ↦ inl (Contains-append_left xs ys s front)
    | inr rest ↦ elim (first_or_behind y ys s rest) [
      | inl first ↦ inr first
      | inr behind ↦ inl (Contains-append_right xs ys s behind)
    ]
  ]),
  (elim [
    | inl has ↦ elim (Contains-append_cases xs ys s has) [
      | inl front ↦ Contains-append_left xs (y ∷ ys) s front
      | inr rest ↦ Contains-append_right xs (y ∷ ys) s (has_behind y ys s rest)
    ]
    | inr same ↦ Contains-append_right xs (y ∷ ys) s (rw same (has_first y ys))
  ]),
)
