-- What is first is one, and where all items of a list are otherwise, none is.
use Rattle.std.proofs.Common.{◌≡◌, ℕ, ◌<◌, List, length, All, Some, slice_get, sym, ap, subst, ◌∙◌, inl, inr}
use Rattle.std.proofs.lemmas.Bool.{cases_order}
use Rattle.std.proofs.lemmas.Option.{slice_get_within, get_or_from_slice_get, same_Some}
use Rattle.spec_lbnf.specs.Checks.{IsFirst, HasAt, IsFirstName}

-- at most one number is the first
pub one_first : (IsSo : ℕ → Type 0) (a b : ℕ) → IsFirst IsSo a → IsFirst IsSo b → a ≡ b
one_first IsSo a b first other = elim (cases_order a b) [
  | inl same ↦ same
  | inr (inl before) ↦ absurd (other.none_before a before first.is_so)
  | inr (inr behind) ↦ absurd (first.none_before b behind other.is_so)
]

-- at most one name is the first
pub one_first_name : (IsSuch : List ℕ → Type 0) (names : List (List ℕ)) (a b : List ℕ)
    → IsFirstName IsSuch names a → IsFirstName IsSuch names b → a ≡ b
one_first_name IsSuch names a b first other =
    let same = one_first (HasAt IsSuch names) first.0 other.0 first.1 other.1 in
    same_Some a b (sym first.2 ∙ ap (slice_get names) same ∙ other.2)

module _ {X : Type 0} (P : X → Type 0) (xs : List X) where
  -- what holds of all items holds of the one at a place
  pub each_item : All P xs → (place : ℕ) (x : X) → slice_get xs place ≡ Some x → P x
  each_item all place x is =
      let lt : place < length xs = slice_get_within xs place x is in
      subst P (get_or_from_slice_get xs place x x is) (all place x lt)

  -- so an item of which it does not hold is at no place
  pub none_at : (IsSuch : X → Type 0) → ((x : X) → IsSuch x → P x → ⊥) → All P xs → (place : ℕ) → HasAt IsSuch xs place → ⊥
  none_at IsSuch apart all place (x, is, such) = apart x such (each_item all place x is)
