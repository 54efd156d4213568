-- Lists of names: the number of a name, and lists without repetitions.
use Rattle.std.proofs.Common.{◌≡◌, ℕ, zero, suc, List, [], ◌∷◌, Bool, true, false, not, ◌||◌, filter, Some, Contains, slice_get, refl, sym, ap, ◌∙◌, inl, inr, one-add}
use Rattle.std.specs.List.{list_any}
use Rattle.std.specs.Str.{bytes_eq}
use Rattle.std.specs.Cmp.Lexicographic.{nat_list_eq_equiv}
use Rattle.std.proofs.lemmas.Bool.{cases_Bool, both_ways, false≢true}
use Rattle.std.proofs.lemmas.Map.Views.{Contains-from_any, list_any-from_Contains}
use Rattle.std.proofs.lemmas.Option.{none-some, same_Some}
use Rattle.std.proofs.lemmas.Slice.Eq.{bytes_eq-Decides}
use Rattle.spec_lbnf.specs.Expansion.{distinct}
use Rattle.spec_grammar.specs.Grammars.{name_number}
use Rattle.spec_lbnf.specs.Laws.{NumbersNameBack, DistinctNames}

-- a name that passes the test is the name
pub same_name : (x y : List ℕ) → bytes_eq x y ≡ true → x ≡ y
same_name x y e = (bytes_eq-Decides x y).0 e

-- a name that the test finds is in the list
pub found_there : (names : List (List ℕ)) (name : List ℕ) → list_any (bytes_eq name) names ≡ true
    → Contains names name
found_there names name h = Contains-from_any {eq = bytes_eq} same_name name names h

-- a name in the list is found by the test
pub there_found : (names : List (List ℕ)) (name : List ℕ) → Contains names name
    → list_any (bytes_eq name) names ≡ true
there_found names name there = list_any-from_Contains nat_list_eq_equiv name names there

-- the name stands at the number of a name that is found
pub name_at_number : (names : List (List ℕ)) (name : List ℕ) → list_any (bytes_eq name) names ≡ true
    → slice_get names (name_number names name) ≡ Some name
name_at_number [] name h = absurd (false≢true h)
name_at_number (x ∷ names) name h = elim (cases_Bool (bytes_eq name x)) [
  | inl e ↦ rw e (ap (λ n. Some n) (sym (same_name name x e)))
  | inr e ↦ rw (e, one-add) (name_at_number names name (rw e at h))
]

-- the number of a listed name is a place where it stands
pub numbers_name_back : NumbersNameBack
numbers_name_back names name there = name_at_number names name (there_found names name there)

-- another name is found among the others as before
any_other : (name x : List ℕ) (names : List (List ℕ)) → bytes_eq name x ≡ false
    → list_any (bytes_eq name) (filter (λ y. not (bytes_eq x y)) names) ≡ list_any (bytes_eq name) names
any_other name x [] ne = refl
any_other name x (y ∷ names) ne = elim (cases_Bool (bytes_eq x y)) [
  | inl e ↦
      let other : bytes_eq name y ≡ false = ap (bytes_eq name) (sym (same_name x y e)) ∙ ne in
      rw (e, other) (any_other name x names ne)
  | inr e ↦ rw (e, any_other name x names ne) refl
]

-- a name is found without repetitions where it is found
pub any_distinct : (name : List ℕ) (names : List (List ℕ))
    → list_any (bytes_eq name) (distinct names) ≡ list_any (bytes_eq name) names
any_distinct name [] = refl
any_distinct name (x ∷ names) = elim (cases_Bool (bytes_eq name x)) [
  | inl e ↦ rw e refl
  | inr e ↦ rw (e, any_other name x (distinct names) e) (any_distinct name names)
]

-- no name is found behind itself
abbrev pub NoneTwice : List (List ℕ) → Type 0
NoneTwice [] = Unit {0}
NoneTwice (x ∷ names) = (list_any (bytes_eq x) names ≡ false) × NoneTwice names

-- what is not found in a list is not found in a filter of it
pub any_filter : (name : List ℕ) (passes : List ℕ → Bool) (names : List (List ℕ))
    → list_any (bytes_eq name) names ≡ false → list_any (bytes_eq name) (filter passes names) ≡ false
any_filter name passes [] h = refl
any_filter name passes (x ∷ names) h =
    let parts = or_false (bytes_eq name x) (list_any (bytes_eq name) names) h in
    elim (cases_Bool (passes x)) [
      | inl e ↦ rw (e, parts.0) (any_filter name passes names parts.1)
      | inr e ↦ rw e (any_filter name passes names parts.1)
    ]
  where
    or_false : (a b : Bool) → (a || b) ≡ false → (a ≡ false) × (b ≡ false)
    or_false true b e = absurd (false≢true (sym e))
    or_false false b e = (refl, e)

-- a filter repeats no name that the list does not
pub none_twice_filter : (passes : List ℕ → Bool) (names : List (List ℕ)) → NoneTwice names
    → NoneTwice (filter passes names)
none_twice_filter passes [] h = tt
none_twice_filter passes (x ∷ names) h = elim (cases_Bool (passes x)) [
  | inl e ↦ rw e (any_filter x passes names h.0, none_twice_filter passes names h.1)
  | inr e ↦ rw e (none_twice_filter passes names h.1)
]

-- a name is not found among the others
none_other : (x : List ℕ) (names : List (List ℕ))
    → list_any (bytes_eq x) (filter (λ y. not (bytes_eq x y)) names) ≡ false
none_other x [] = refl
none_other x (y ∷ names) = elim (cases_Bool (bytes_eq x y)) [
  | inl e ↦ rw e (none_other x names)
  | inr e ↦ rw (e, e) (none_other x names)
]

-- a list without repetitions repeats no name
pub none_twice : (names : List (List ℕ)) → NoneTwice (distinct names)
none_twice [] = tt
none_twice (x ∷ names) = (none_other x (distinct names), none_twice_filter (λ y. not (bytes_eq x y)) (distinct names) (none_twice names))

-- a name that stands at a place is found
pub found_at : (names : List (List ℕ)) (k : ℕ) (name : List ℕ) → slice_get names k ≡ Some name
    → list_any (bytes_eq name) names ≡ true
found_at [] k name e = absurd (none-some name e)
found_at (x ∷ names) zero name e = rw ((bytes_eq-Decides name x).1 (sym (same_Some x name e))) refl
found_at (x ∷ names) (suc k) name e = elim (cases_Bool (bytes_eq name x)) [
  | inl same ↦ rw same refl
  | inr other ↦ rw other (found_at names k name e)
]

-- where no name is found behind itself, each stands at one place
pub one_place : (names : List (List ℕ)) → NoneTwice names → (i j : ℕ) (name : List ℕ)
    → slice_get names i ≡ Some name → slice_get names j ≡ Some name → i ≡ j
one_place [] none i j name at_i at_j = absurd (none-some name at_i)
one_place (x ∷ names) none zero zero name at_i at_j = refl
one_place (x ∷ names) none zero (suc j) name at_i at_j =
    absurd (both_ways (list_any (bytes_eq x) names) none.0 (found_at names j x (at_j ∙ sym at_i)))
one_place (x ∷ names) none (suc i) zero name at_i at_j =
    absurd (both_ways (list_any (bytes_eq x) names) none.0 (found_at names i x (at_i ∙ sym at_j)))
one_place (x ∷ names) none (suc i) (suc j) name at_i at_j = ap suc (one_place names none.1 i j name at_i at_j)

-- `distinct` gives each name of the list once
pub distinct_names : DistinctNames
distinct_names names = record {
  same = λ name. (
    λ there. found_there names name (sym (any_distinct name names) ∙ there_found (distinct names) name there),
    λ there. found_there (distinct names) name (any_distinct name names ∙ there_found names name there),
  );
  once = one_place (distinct names) (none_twice names);
}
