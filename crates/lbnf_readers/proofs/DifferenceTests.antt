-- The differences of definitions are good, or there is a first that is not, and it has a minus sign.
use Rattle.std.proofs.Common.{◌≡◌, ℕ, zero, suc, ◌<◌, List, [], ◌∷◌, length, Some, slice_get, get_or, chars, ◌⊎◌, inl, inr, refl, subst, arith}
use Rattle.std.specs.List.{AllByRecursion}
use Rattle.std.proofs.lemmas.Bool.{cases_lt}
use Rattle.std.proofs.lemmas.List.Elements.{All-from_recursion, recursion_from_All}
use Rattle.std.proofs.lemmas.Option.{same_Some, slice_get_within, slice_get-get_or}
use Rattle.spec_lexing.specs.declared.expression.Class.TheVariants.{AnyChar}
use Rattle.spec_lexing.specs.Expressions.{Expression, class, scalar, any_of, nothing, either, minus}
use Rattle.spec_lexing.specs.Classes.{IsClass, IsAsciiClass}
use Rattle.spec_lbnf.specs.declared.definition.Def.{Def}
use Rattle.spec_lbnf.specs.declared.token.PlacedToken.{PlacedToken}
use Rattle.spec_lbnf.specs.Checks.{IsFirst, HasAt}
use Rattle.spec_lbnf.specs.GrammarFile.{SpellsDefs}
use Rattle.spec_lbnf.specs.Differences.{Difference, differences_of, IsGood, IsBad, HasGoodDifferences, IsFirstBad, minus_signs}
use Rattle.spec_lbnf.specs.Faults.{bare, IsFirstBadAt}
use Rattle.spec_lbnf.proofs.DifferenceLemmas.{minus_for_each}

-- it holds or it does not
abbrev Either : Type 0 → Type 0
Either P = P ⊎ (P → ⊥)

-- both hold, or not
both_or_not : (P Q : Type 0) → Either P → Either Q → Either (P × Q)
both_or_not P Q (inl p) (inl q) = inl (p, q)
both_or_not P Q (inl p) (inr none) = inr (λ both. none both.1)
both_or_not P Q (inr none) q = inr (λ both. none both.0)

-- an expression is a class or not
class_or_not : (e : Expression) → Either (IsClass e)
class_or_not (class k) = inl tt
class_or_not (scalar c) = inl tt
class_or_not (any_of name) = inl tt
class_or_not nothing = inl tt
class_or_not (either left right) = both_or_not (IsClass left) (IsClass right) (class_or_not left) (class_or_not right)
class_or_not (minus left right) = inl tt
class_or_not other = inr (λ is. is)

-- scalars are ASCII or not
all_or_not : (scalars : List ℕ) → Either (AllByRecursion (λ c. c < 128) scalars)
all_or_not [] = inl tt
all_or_not (c ∷ scalars) = both_or_not (c < 128) (AllByRecursion (λ d. d < 128) scalars) (below_or_not c) (all_or_not scalars)
  where
    below_or_not : (n : ℕ) → Either (n < 128)
    below_or_not n = elim (cases_lt n 128) [ inl lt ↦ inl lt | inr ge ↦ inr (λ lt. omega (arith, lt, ge)) ]

-- an expression is an ASCII class or not
ascii_or_not : (e : Expression) → Either (IsAsciiClass e)
ascii_or_not (class AnyChar) = inr (λ is. is)
ascii_or_not (class k) = inl tt
ascii_or_not (scalar c) = elim (cases_lt c 128) [ inl lt ↦ inl lt | inr ge ↦ inr (λ lt. omega (arith, lt, ge)) ]
ascii_or_not (any_of name) = elim (all_or_not (chars name)) [
  | inl all ↦ inl (All-from_recursion (λ c. c < 128) (chars name) all)
  | inr none ↦ inr (λ all. none (recursion_from_All (λ c. c < 128) (chars name) all))
]
ascii_or_not nothing = inl tt
ascii_or_not (either left right) = both_or_not (IsAsciiClass left) (IsAsciiClass right) (ascii_or_not left) (ascii_or_not right)
ascii_or_not (minus left right) = ascii_or_not left
ascii_or_not other = inr (λ is. is)

-- a difference is good or bad
good_or_bad : (difference : Difference) → IsGood difference ⊎ IsBad difference
good_or_bad difference =
    both_or_not (IsClass difference.0) (IsAsciiClass difference.1) (class_or_not difference.0) (ascii_or_not difference.1)

-- differences are good, or one is the first that is bad
all_or_first : (differences : List Difference) → AllByRecursion IsGood differences ⊎ ((number : ℕ) × IsFirst (HasAt IsBad differences) number)
all_or_first [] = inl tt
all_or_first (d ∷ differences) = by (good_or_bad d) (all_or_first differences)
  where
    by : IsGood d ⊎ IsBad d → AllByRecursion IsGood differences ⊎ ((number : ℕ) × IsFirst (HasAt IsBad differences) number)
        → AllByRecursion IsGood (d ∷ differences) ⊎ ((number : ℕ) × IsFirst (HasAt IsBad (d ∷ differences)) number)
    by (inr bad) others = inr (0, record { is_so = (d, refl, bad); none_before = λ k lt has. omega (arith, lt) })
    by (inl good) (inl all) = inl (good, all)
    by (inl good) (inr (number, first)) = inr (suc number, record { is_so = first.is_so; none_before = none })
      where
        none : (k : ℕ) → k < suc number → HasAt IsBad (d ∷ differences) k → ⊥
        none zero lt has = has.2 (subst IsGood (same_Some d has.0 has.1) good)
        none (suc k) lt has = first.none_before k (omega (arith, lt)) has

-- the differences of definitions are good, or one is the first that is bad
pub good_or_first : (defs : List Def) → HasGoodDifferences defs ⊎ ((number : ℕ) × IsFirstBad defs number)
good_or_first defs = elim (all_or_first (differences_of defs)) [
  | inl all ↦ inl (All-from_recursion IsGood (differences_of defs) all)
  | inr first ↦ inr first
]

-- an item of a list that is as long as another
item_there : {A B : Type 0} (xs : List A) (ys : List B) (n : ℕ) (x : A) → length xs ≡ length ys → slice_get xs n ≡ Some x
    → (y : B) × (slice_get ys n ≡ Some y)
item_there {A} {B} xs ys n x len is = by ys (omega (arith, len, slice_get_within xs n x is))
  where
    by : (ys : List B) → n < length ys → (y : B) × (slice_get ys n ≡ Some y)
    by [] lt = absurd (omega (arith, lt))
    by (y ∷ ys) lt = (get_or (y ∷ ys) n y, slice_get-get_or (y ∷ ys) n y lt)

-- the first that is bad has a minus sign
pub first_at : (defs : List Def) (tokens : List PlacedToken) (number : ℕ) → SpellsDefs defs (bare tokens) → IsFirstBad defs number
    → (offset : ℕ) × IsFirstBadAt tokens defs offset
first_at defs tokens number spelled first =
    let there = item_there (differences_of defs) (minus_signs tokens) number first.is_so.0 (minus_for_each defs tokens spelled) first.is_so.1 in (
      there.0.offset,
      record {
        number = number;
        first = first;
        sign = there.0;
        is_sign = there.1;
        is_offset = refl;
      },
    )
