-- Laws of what two lists have in common.
use Rattle.std.proofs.Common.{◌≡◌, ℕ, ◌+◌, ◌<◌, ◌↔◌, List, [], ◌∷◌, ◌++◌, length, get_or, take, drop, refl, sym, ◌∙◌, inl, inr, arith, Bool, true, false, nat_eq, IsTrue}
use Rattle.std.specs.Cmp.Lexicographic.{pointwise, same_text, other_text}
use Rattle.std.proofs.lemmas.Bool.{false≢true}
use Rattle.std.specs.List.{Contains}
use Rattle.std.proofs.lemmas.Grind.{get_or_default_zero}
use Rattle.std.proofs.lemmas.List.{take_more, take-append-drop}
use Rattle.std.proofs.lemmas.List.Elements.{Contains-get_or, Contains-append_left, Contains-append_right, Contains-append_cases}
use Rattle.cell_sets.specs.Cells.{IsRising, Meet, IsCommon, HaveSame}
use Rattle.cell_sets.proofs.CellsLemmas.{first_or_behind, rising_lists_are_sets}
use Rattle.cell_sets.proofs.RisingLemmas.{rising_append, rising_front, rising_before}

-- lists meet where the second has what stands in the first at some place
pub meet_at :
    (left right : List ℕ) (i : ℕ) → i < length left → Contains right (get_or left i 0)
    → Meet left right
meet_at left right i within has = (get_or left i 0, Contains-get_or left i 0 within, has)

-- lists do not meet where the second has nothing that stands in the first
pub none_meet :
    (left right : List ℕ)
    → ((n : ℕ) → n < length left → Contains right (get_or left n 0) → ⊥) → Meet left right → ⊥
none_meet left right none (s, (n, within, at), has) =
    let same : get_or left n 0 ≡ s = sym (get_or_default_zero left n s within) ∙ at in
    none n within (rw same has)

-- lists in rising order have the same members exactly where they are the same
pub same_lists :
    (left right : List ℕ) → IsRising left → IsRising right
    → (left ≡ right) ↔ HaveSame left right
same_lists left right rising_left rising_right = (
  (λ same s. rw same ((λ has. has), (λ has. has))),
  rising_lists_are_sets left right rising_left rising_right,
)

-- a test of two lists in rising order tells whether they have the same members
pub same_told :
    (left right : List ℕ) (told : Bool) → IsRising left → IsRising right
    → told ≡ pointwise nat_eq left right → IsTrue told ↔ HaveSame left right
same_told left right true rising_left rising_right is = (
  (λ _. (same_lists left right rising_left rising_right).0 (same_text left right is)),
  (λ _. refl),
)
same_told left right false rising_left rising_right is = (
  (λ is_true. absurd (false≢true is_true)),
  (λ same. absurd (other_text left right is
      ((same_lists left right rising_left rising_right).1 same))),
)

-- a number that the second list has too is common
pub common_more :
    (xs right common : List ℕ) (x : ℕ) → IsCommon xs right common → Contains right x
    → IsCommon (xs ++ x ∷ []) right (common ++ x ∷ [])
common_more xs right common x is has_x s = (
  (λ has. elim (Contains-append_cases common (x ∷ []) s has) [
    | inl old ↦
        let both = (is s).0 old in (Contains-append_left xs (x ∷ []) s both.0, both.1)
    | inr new ↦ elim (first_or_behind x [] s new) [
      | inl same ↦ (Contains-append_right xs (x ∷ []) s new, rw same has_x)
      | inr (n, within, at) ↦ absurd (omega (arith, within))
    ]
  ]),
  (λ both. elim (Contains-append_cases xs (x ∷ []) s both.0) [
    | inl old ↦ Contains-append_left common (x ∷ []) s ((is s).1 (old, both.1))
    | inr new ↦ Contains-append_right common (x ∷ []) s new
  ]),
)

-- a number that the second list has not is passed over
pub common_passed :
    (xs right common : List ℕ) (x : ℕ) → IsCommon xs right common → (Contains right x → ⊥)
    → IsCommon (xs ++ x ∷ []) right common
common_passed xs right common x is not s = (
  (λ has. let both = (is s).0 has in (Contains-append_left xs (x ∷ []) s both.0, both.1)),
  (λ both. elim (Contains-append_cases xs (x ∷ []) s both.0) [
    | inl old ↦ (is s).1 (old, both.1)
    | inr new ↦ elim (first_or_behind x [] s new) [
      | inl same ↦ absurd (not (rw same at both.1))
      | inr (n, within, at) ↦ absurd (omega (arith, within))
    ]
  ]),
)

-- a common number from behind keeps the order
pub common_rising :
    (xs right common : List ℕ) (x : ℕ) → IsCommon xs right common → IsRising common
    → IsRising (xs ++ x ∷ []) → IsRising (common ++ x ∷ [])
common_rising xs right common x is rising whole =
    rising_append common (x ∷ []) rising one before where
      one : IsRising (x ∷ [])
      one i j order within = absurd (omega arith)

      before : (s t : ℕ) → Contains common s → Contains (x ∷ []) t → s < t
      before s t has_s has_t = rising_before xs (x ∷ []) whole s t ((is s).0 has_s).0 has_t

-- what is common to the numbers before a place of the first list and to the second
pub record IsCommonSoFar (left right common : List ℕ) (i : ℕ) : Type 0 where
  pub is : IsCommon (take i left) right common
  pub rising : IsRising common

module _
    (left right common : List ℕ) (i : ℕ) (within : i < length left) (rising : IsRising left)
    (so_far : IsCommonSoFar left right common i) where
  -- the numbers up to the place are in rising order
  front : IsRising (take i left ++ get_or left i 0 ∷ [])
  front = rw (take_more left i 0 within) at
      (rising_front (take (i + 1) left) (drop (i + 1) left)
      (rw (take-append-drop (i + 1) left) rising))

  -- the number at the place is common
  pub common_taken :
      Contains right (get_or left i 0)
      → IsCommonSoFar left right (common ++ get_or left i 0 ∷ []) (i + 1)
  common_taken has = record {
    is = rw (take_more left i 0 within)
        (common_more (take i left) right common (get_or left i 0) so_far.is has);
    rising = common_rising (take i left) right common (get_or left i 0) so_far.is so_far.rising front;
  }

  -- the number at the place is not common
  pub common_left :
      (Contains right (get_or left i 0) → ⊥) → IsCommonSoFar left right common (i + 1)
  common_left not = record {
    is = rw (take_more left i 0 within)
        (common_passed (take i left) right common (get_or left i 0) so_far.is not);
    rising = so_far.rising;
  }
