-- Cells and lists that are filled number by number.
use Rattle.std.proofs.Common.{◌≡◌, ℕ, zero, suc, ◌+◌, ◌↔◌, List, [], ◌∷◌, ◌++◌, Some, inl, inr, length, length-append, slice_get, sym, subst, arith, Contains}
use Rattle.std.proofs.lemmas.List.Elements.{Contains-append_left, Contains-append_right, Contains-append_cases}
use Rattle.spec_grammar.specs.Grammars.{Grammar}
use Rattle.cell_sets.specs.Cells.{AddsSymbol}
use Rattle.binary_form.specs.BinaryForm.{IsClosureOf}
use Rattle.binary_form.specs.Forms.{AreClosuresUpTo}
use Rattle.number_graph.proofs.LinkLemmas.{Contains-one}

-- the cell has just the numbers of the list
abbrev pub HasJust : List ℕ → List ℕ → Type 0
HasJust numbers cell = (n : ℕ) → Contains cell n ↔ Contains numbers n

-- a cell without numbers has just those of an empty list
pub just_none : HasJust [] []
just_none n = ((λ has. has), (λ has. has))

-- with one number more a cell has just those of a list with one more
pub just_more :
    (numbers : List ℕ) (number : ℕ) (old new : List ℕ)
    → HasJust numbers old → AddsSymbol old new number → HasJust (numbers ++ number ∷ []) new
just_more numbers number old new before adds n = (
  (λ has. elim ((adds n).0 has) [
    | inl kept ↦ Contains-append_left numbers (number ∷ []) n ((before n).0 kept)
    | inr same ↦ Contains-append_right numbers (number ∷ []) n (0, omega arith, sym same)
  ]),
  (λ has. elim (Contains-append_cases numbers (number ∷ []) n has) [
    | inl kept ↦ (adds n).1 (inl ((before n).1 kept))
    | inr one ↦ (adds n).1 (inr (Contains-one number n one))
  ]),
)

-- what holds of each item of a list by its place, and of one that is put behind it, holds of all
pub each_pushed :
    {X : Type 0} (P : ℕ → X → Type 0) (xs : List X) (last : X)
    → ((n : ℕ) (x : X) → slice_get xs n ≡ Some x → P n x) → P (length xs) last
    → (n : ℕ) (x : X) → slice_get (xs ++ last ∷ []) n ≡ Some x → P n x
each_pushed P [] last before it zero x is =
    let same : last ≡ x = cc in
    subst (P 0) same it
each_pushed P [] last before it (suc n) x is = absurd (cc)
each_pushed P (y ∷ ys) last before it zero x is = before 0 x is
each_pushed P (y ∷ ys) last before it (suc n) x is =
    each_pushed (λ m z. P (suc m) z) ys last (λ m z. before (suc m) z) it n x is

-- a list of closures goes on with that of the next number
pub closures_more :
    {C : Type 0} (symbols : C → List ℕ) (g : Grammar) (many : ℕ) (cells : List C) (last : C)
    → AreClosuresUpTo symbols g many cells → IsClosureOf g many (symbols last)
    → AreClosuresUpTo symbols g (many + 1) (cells ++ last ∷ [])
closures_more {C = C} symbols g many cells last before it =
    let Is : ℕ → C → Type 0 = λ n cell. IsClosureOf g n (symbols cell) in
    let IsLast : ℕ → Type 0 = λ n. Is n last in
    record {
      count = omega (arith, length-append cells (last ∷ []), before.count);
      each = each_pushed Is cells last before.each (subst IsLast (sym before.count) it);
    }
