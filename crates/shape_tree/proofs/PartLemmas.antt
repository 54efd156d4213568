-- What the kept trees of a shape inherit from those that they are parts of.
use Rattle.std.specs.List.{Contains}
use Rattle.std.proofs.Common.{zero, suc, ◌<◌, [], ◌∷◌, slice_index_or, refl, arith, ◌≡◌, ◌↔◌, ℕ, List, Option, Some, MatchOption, subst}
use Rattle.shape_tree.specs.Parts.{IsPart, itself, left, right, IsPartOfOne, AllKept, AreParts}
use Rattle.shape_tree.specs.declared.shape.Shape.{Shape, Kept, Fresh'}

-- no place below 2 is 2 or more
no_third : (k : ℕ) → suc (suc k) < 2 → ⊥
no_third k below = omega (arith, below)

-- what holds of both items holds of each item of the list of the two
of_two : {T : Type 0} (Holds : T → Type 0) (u v t : T) (k : ℕ) → Holds u → Holds v → k < 2
    → slice_index_or (u ∷ v ∷ []) k t ≡ t → Holds t
of_two Holds u v t zero first second below is = subst Holds is first
of_two Holds u v t (suc zero) first second below is = subst Holds is second
of_two Holds u v t (suc (suc k)) first second below is = elim (no_third k below) [ ]

module _ {T I : Type 0} where
  -- both sides of a part are parts
  pub sides_are_parts : (has_parts : T → T → I → T → Type 0) (given : List T) (t l : T) (i : I) (r : T)
      → IsPartOfOne has_parts given t → has_parts t l i r
      → IsPartOfOne has_parts given l × IsPartOfOne has_parts given r
  sides_are_parts has_parts given t l i r part has =
      ((part.0, part.1, left part.2 has), (part.0, part.1, right part.2 has))

  -- what a call that may find nothing says of the kept trees of the rest
  pub rest_parts : (has_parts : T → T → I → T → Type 0) (given : List T) (whole : Shape T I)
      (o : Option (I × Shape T I)) (p : I × Shape T I)
      → MatchOption o (Unit {0})
      (λ q. (some : List T) → AreParts has_parts some whole → AreParts has_parts some q.1)
      → o ≡ Some p → AreParts has_parts given whole → AreParts has_parts given p.1
  rest_parts has_parts given whole o p says is parts =
      (subst (λ x. MatchOption x (Unit {0})
      (λ q. (some : List T) → AreParts has_parts some whole → AreParts has_parts some q.1))
      is says) given parts

  -- a fact that holds of each kept tree still does where it means the same
  pub kept_still : (Old New : T → Type 0) (s : Shape T I) → ((t : T) → Old t ↔ New t)
      → AllKept Old s → AllKept New s
  kept_still Old New (Kept t) same all = (same t).0 all
  kept_still Old New (Fresh' p l i r) same all =
      (kept_still Old New l same all.0, kept_still Old New r same all.1)

  -- a fact that sides inherit holds of each part of a tree of which it holds
  pub part_inherits : (has_parts : T → T → I → T → Type 0) (Holds : T → Type 0) (whole t : T)
      → ((w l : T) (i : I) (r : T) → Holds w → has_parts w l i r → Holds l × Holds r)
      → Holds whole → IsPart has_parts whole t → Holds t
  part_inherits has_parts Holds whole t down holds itself = holds
  part_inherits has_parts Holds whole t down holds (left part has) =
      (down _ _ _ _ (part_inherits has_parts Holds whole _ down holds part) has).0
  part_inherits has_parts Holds whole t down holds (right part has) =
      (down _ _ _ _ (part_inherits has_parts Holds whole _ down holds part) has).1

  -- a fact that sides inherit and that each given tree has, each kept tree of the shape has
  pub kept_inherit : (has_parts : T → T → I → T → Type 0) (Holds : T → Type 0) (given : List T)
      (s : Shape T I)
      → ((w l : T) (i : I) (r : T) → Holds w → has_parts w l i r → Holds l × Holds r)
      → ((t : T) → Contains given t → Holds t) → AreParts has_parts given s → AllKept Holds s
  kept_inherit has_parts Holds given (Kept t) down all part =
      part_inherits has_parts Holds part.0 t down (all part.0 part.1) part.2
  kept_inherit has_parts Holds given (Fresh' q l i r) down all parts = (
    kept_inherit has_parts Holds given l down all parts.0,
    kept_inherit has_parts Holds given r down all parts.1,
  )

  -- a fact that holds of every tree holds of each kept tree of the shape
  pub every_kept : (Holds : T → Type 0) → ((t : T) → Holds t) → (s : Shape T I) → AllKept Holds s
  every_kept Holds all (Kept t) = all t
  every_kept Holds all (Fresh' q l i r) = (every_kept Holds all l, every_kept Holds all r)

  -- a fact that sides inherit and that two trees have, each kept tree has that comes from the two
  pub kept_of_two : (has_parts : T → T → I → T → Type 0) (Holds : T → Type 0) (u v : T) (s : Shape T I)
      → ((w l : T) (i : I) (r : T) → Holds w → has_parts w l i r → Holds l × Holds r)
      → Holds u → Holds v
      → ((given : List T) → IsPartOfOne has_parts given u → IsPartOfOne has_parts given v
      → AreParts has_parts given s)
      → AllKept Holds s
  kept_of_two has_parts Holds u v s down first second parts =
      let one : IsPartOfOne has_parts (u ∷ v ∷ []) u = (u, (0, omega arith, refl), itself) in
      let two : IsPartOfOne has_parts (u ∷ v ∷ []) v = (v, (1, omega arith, refl), itself) in
      kept_inherit has_parts Holds (u ∷ v ∷ []) s down
      (λ t p. of_two Holds u v t p.0 first second p.1 p.2) (parts (u ∷ v ∷ []) one two)
