-- What the functions of src/laws.rt say of orders of ends.
use Rattle.std.specs.Prelude.{◌≡◌, ℕ, ◌⊎◌, ◌↔◌, List, [], ◌∷◌, Option, length, Bool, IsTrue}
use Rattle.std.specs.Prelude.{nat_lt}
use Rattle.spec_grammar.specs.declared.rule.Symbol.{Symbol}
use Rattle.spec_grammar.specs.declared.rule.Rule.{Rule}
use Rattle.spec_grammar.specs.Derivation.{Derives, DerivesAll}
use Rattle.spec_trees.specs.FirstTrees.{EndsOrder, from_left, NoEndsBefore}

-- of two equally long lists that are not the same, one comes before the other
abbrev pub TellsApart : EndsOrder → Type 0
TellsApart is_before =
    (ends others : List ℕ)
    → length ends ≡ length others → (ends ≡ others)
    ⊎ (IsTrue (is_before ends others) ⊎ IsTrue (is_before others ends))

-- the test is a strict order of numbers
pub record IsStrictOrder (is_lesser : ℕ → ℕ → Bool) : Type 0 where
  -- of two numbers that are not the same, one is lesser
  pub apart : (m n : ℕ) → (m ≡ n) ⊎ (IsTrue (is_lesser m n) ⊎ IsTrue (is_lesser n m))
  -- what is lesser than a lesser number is lesser
  pub chain :
      (k m n : ℕ) → IsTrue (is_lesser k m) → IsTrue (is_lesser m n) → IsTrue (is_lesser k n)
  -- no number is lesser than itself
  pub never : (n : ℕ) → IsTrue (is_lesser n n) → ⊥

-- the lesser number first, and the greater number first, are strict orders
abbrev pub NumbersAreOrdered : Type 0
NumbersAreOrdered = IsStrictOrder nat_lt × IsStrictOrder (λ m n. nat_lt n m)

-- each order from the left tells such lists apart
abbrev pub LeftTellsApart : Type 0
LeftTellsApart =
    (is_lesser : ℕ → ℕ → Bool) → IsStrictOrder is_lesser → TellsApart (from_left is_lesser)

-- no place that is lesser than k cuts the span i..j into a part that the symbol derives and one
-- that the items derive
abbrev pub NoLesserCut :
    (ℕ → ℕ → Bool) → List Rule → List (Option ℕ) → Symbol → List Symbol → ℕ → ℕ → ℕ → Type 0
NoLesserCut is_lesser rules kinds s rest i k j =
    (m : ℕ)
    → IsTrue (is_lesser m k) → Derives rules kinds s i m → DerivesAll rules kinds rest m j → ⊥

-- no ends come before an empty list of ends
abbrev pub NoEndsBeforeNone : Type 0
NoEndsBeforeNone =
    (is_lesser : ℕ → ℕ → Bool)
    (rules : List Rule) (kinds : List (Option ℕ)) (items : List Symbol) (i j : ℕ)
    → NoEndsBefore (from_left is_lesser) rules kinds [] items i j

-- where the first item derives i..k, no ends come before k and the others exactly where no lesser
-- place cuts the span, and no ends of the other items come before the others
abbrev pub EndsAreLeastInTurn : Type 0
EndsAreLeastInTurn =
    (is_lesser : ℕ → ℕ → Bool)
    (rules : List Rule) (kinds : List (Option ℕ)) (s : Symbol) (rest : List Symbol)
    (i k j : ℕ) (ends : List ℕ)
    → Derives rules kinds s i k
    → NoEndsBefore (from_left is_lesser) rules kinds (k ∷ ends) (s ∷ rest) i j
    ↔ NoLesserCut is_lesser rules kinds s rest i k j
    × NoEndsBefore (from_left is_lesser) rules kinds ends rest k j
