-- The items of shapes that were taken apart and put together.
use Rattle.std.proofs.Common.{◌≡◌, ◌↔◌, List, [], ◌∷◌, ◌++◌, refl, append_assoc}
use Rattle.std.specs.List.{All}
use Rattle.std.proofs.lemmas.List.Elements.{All-nil, All-cons, All-head, All-tail}

module _ {I : Type 0} where
  -- down the right side of the first
  pub spine_right : (whole l r right n out : List I) (i x : I)
      → whole ≡ l ++ i ∷ r → n ≡ r ++ x ∷ right → out ≡ l ++ i ∷ n → out ≡ whole ++ x ∷ right
  spine_right whole l r right n out i x is joined settled = rw (is, settled, joined, append_assoc) refl

  -- down the left side of the second
  pub spine_left : (whole l r left n out : List I) (i x : I)
      → whole ≡ l ++ i ∷ r → n ≡ left ++ x ∷ l → out ≡ n ++ i ∷ r → out ≡ left ++ x ∷ whole
  spine_left whole l r left n out i x is joined settled = rw (is, settled, joined, append_assoc) refl

  -- what holds of each item of both lists holds of each item of the second
  pub all_behind : (Holds : I → Type 0) (xs ys : List I) → All Holds (xs ++ ys) → All Holds ys
  all_behind Holds [] ys all = all
  all_behind Holds (x ∷ xs) ys all = all_behind Holds xs ys (All-tail Holds x (xs ++ ys) all)

  -- a fact that holds of each item still does where it means the same
  pub all_still : (Old New : I → Type 0) (xs : List I) → ((x : I) → Old x ↔ New x)
      → All Old xs → All New xs
  all_still Old New [] same all = All-nil New
  all_still Old New (x ∷ xs) same all =
      All-cons New x xs ((same x).0 (All-head Old x xs all))
      (all_still Old New xs same (All-tail Old x xs all))
