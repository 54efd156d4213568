-- Adding names one by one leaves them without repetitions, in the order of first meeting.
use Rattle.std.proofs.Common.{◌≡◌, ℕ, ◌+◌, ◌≤◌, List, [], ◌∷◌, ◌++◌, length, Bool, true, false, not, ◌&&◌, ◌||◌, filter, refl, sym, ap, ◌∙◌, inl, inr, arith, append-nil, append_assoc, length-append, true≢false, take, map, cond, Some, slice_get}
use Rattle.std.specs.List.{list_any, AllByRecursion}
use Rattle.std.specs.Str.{bytes_eq}
use Rattle.std.specs.Cmp.Lexicographic.{nat_list_eq_equiv}
use Rattle.std.proofs.lemmas.Bool.{cases_Bool}
use Rattle.std.proofs.Math.Bool.{or-false, or_assoc}
use Rattle.std.proofs.lemmas.List.{map-append}
use Rattle.std.proofs.lemmas.List.Elements.{filter_agree, filter-append}
use Rattle.std.proofs.lemmas.List.Folds.{list_any-append}
use Rattle.std.proofs.lemmas.List.Sums.{fold-append}
use Rattle.std.proofs.lemmas.Slice.Eq.{bytes_eq-Decides}
use Rattle.spec_lbnf.specs.Expansion.{distinct}
use Rattle.spec_lbnf.proofs.NameLemmas.{NoneTwice, none_twice}
use Rattle.lbnf_grammar.proofs.LabelLemmas.{take_next}
use Rattle.lbnf_grammar.specs.Numbering.{with_new_name, with_new_names}
use Rattle.lbnf_grammar.proofs.NameLemmas.{with_name_there, with_name_new}

-- a filter of a filter keeps what passes both
filter_filter : {A : Type 0} (p q : A → Bool) (xs : List A)
    → filter p (filter q xs) ≡ filter (λ y. q y && p y) xs
filter_filter p q [] = refl
filter_filter p q (x ∷ xs) = elim (cases_Bool (q x)) [
  | inl e ↦ rw (e, filter_filter p q xs) refl
  | inr e ↦ rw (e, filter_filter p q xs) refl
]

-- a filter that all pass keeps all
filter_all : {A : Type 0} (xs : List A) → filter (λ y. true) xs ≡ xs
filter_all [] = refl
filter_all (x ∷ xs) = ap (λ l. x ∷ l) (filter_all xs)

-- the name is none of the names
abbrev is_new : List (List ℕ) → List ℕ → Bool
is_new names name = not (list_any (bytes_eq name) names)

-- the name is another one
abbrev is_other : List ℕ → List ℕ → Bool
is_other x y = not (bytes_eq x y)

-- with a name that is there, what is new is another name
new_there : (names : List (List ℕ)) (x y : List ℕ) → list_any (bytes_eq x) names ≡ true
    → (is_other x y && is_new names y) ≡ is_new names y
new_there names x y there = elim (cases_Bool (bytes_eq x y)) [
  | inr e ↦ rw e refl
  | inl e ↦
      let same : x ≡ y = (bytes_eq-Decides x y).0 e in
      let too : list_any (bytes_eq y) names ≡ true = ap (λ n. list_any (bytes_eq n) names) (sym same) ∙ there in
      rw (e, too) refl
]

-- with a new name, what is new is another name, and new without it
new_more : (names : List (List ℕ)) (x y : List ℕ)
    → (is_other x y && is_new names y) ≡ is_new (names ++ x ∷ []) y
new_more names x y = rw (list_any-append (bytes_eq y) names (x ∷ []), nat_list_eq_equiv.symm y x) (by (bytes_eq x y) (list_any (bytes_eq y) names))
  where
    by : (other there : Bool) → (not other && not there) ≡ not (there || (other || false))
    by true true = refl
    by true false = refl
    by false true = refl
    by false false = refl

-- what is added to names is what is new, without repetitions
with_new_names_distinct : (names xs : List (List ℕ))
    → with_new_names names xs ≡ names ++ filter (is_new names) (distinct xs)
with_new_names_distinct names [] = sym (append-nil names)
with_new_names_distinct names (x ∷ xs) = elim (cases_Bool (list_any (bytes_eq x) names)) [
  | inl there ↦
      let both : filter (is_new names) (filter (is_other x) (distinct xs)) ≡ filter (is_new names) (distinct xs)
      = filter_filter (is_new names) (is_other x) (distinct xs) ∙ filter_agree (λ y. is_other x y && is_new names y) (is_new names) (λ y. new_there names x y there) (distinct xs) in
      rw (with_name_there names x there, there, both) (with_new_names_distinct names xs)
  | inr absent ↦
      let more : List (List ℕ) = names ++ x ∷ [] in
      let both : filter (is_new names) (filter (is_other x) (distinct xs)) ≡ filter (is_new more) (distinct xs)
      = filter_filter (is_new names) (is_other x) (distinct xs) ∙ filter_agree (λ y. is_other x y && is_new names y) (is_new more) (λ y. new_more names x y) (distinct xs) in
      rw (with_name_new names x absent, absent, both) (with_new_names_distinct more xs ∙ append_assoc names (x ∷ []) (filter (is_new more) (distinct xs)))
]

-- names that are added one by one to none
pub names_distinct : (xs : List (List ℕ)) → with_new_names [] xs ≡ distinct xs
names_distinct xs = with_new_names_distinct [] xs ∙ filter_all (distinct xs)

-- a name is listed after another is added if it was, or is the other
any_with_name : (x : List ℕ) (names : List (List ℕ)) (y : List ℕ)
    → list_any (bytes_eq x) (with_new_name names y) ≡ (list_any (bytes_eq x) names || bytes_eq x y)
any_with_name x names y = elim (cases_Bool (list_any (bytes_eq y) names)) [
  | inl there ↦ rw (with_name_there names y there) (elim (cases_Bool (bytes_eq x y)) [
    | inl e ↦
        let too : list_any (bytes_eq x) names ≡ true = ap (λ n. list_any (bytes_eq n) names) ((bytes_eq-Decides x y).0 e) ∙ there in
        rw (e, too) refl
    | inr e ↦ rw e (sym (or-false (list_any (bytes_eq x) names)))
  ])
  | inr absent ↦ rw (with_name_new names y absent, list_any-append (bytes_eq x) names (y ∷ []), or-false (bytes_eq x y)) refl
]

-- a name is listed after others are added if it was, or is one of them
pub any_with_new_names : (x : List ℕ) (names others : List (List ℕ))
    → list_any (bytes_eq x) (with_new_names names others) ≡ (list_any (bytes_eq x) names || list_any (bytes_eq x) others)
any_with_new_names x names [] = sym (or-false (list_any (bytes_eq x) names))
any_with_new_names x names (y ∷ others) =
    any_with_new_names x (with_new_name names y) others ∙ rw (any_with_name x names y) (or_assoc (list_any (bytes_eq x) names) (bytes_eq x y) (list_any (bytes_eq x) others))

-- a name adds one at most
with_name_length : (names : List (List ℕ)) (x : List ℕ) → length (with_new_name names x) ≤ length names + 1
with_name_length names x = elim (cases_Bool (list_any (bytes_eq x) names)) [
  | inl e ↦ rw (with_name_there names x e) (omega arith)
  | inr e ↦ rw (with_name_new names x e, length-append names (x ∷ [])) (omega arith)
]

-- names add as many as they are, at most
pub with_new_names_length : (names xs : List (List ℕ)) → length (with_new_names names xs) ≤ length names + length xs
with_new_names_length names [] = omega arith
with_new_names_length names (x ∷ xs) = omega (arith, with_new_names_length (with_new_name names x) xs, with_name_length names x)

-- names of which none stands twice are without repetitions as they are
pub distinct_once : (names : List (List ℕ)) → NoneTwice names → distinct names ≡ names
distinct_once [] once = refl
distinct_once (x ∷ names) once =
    ap (λ l. x ∷ l) (ap (filter (is_other x)) (distinct_once names once.1) ∙ others_stay names once.0)
  where
    others_stay : (ys : List (List ℕ)) → list_any (bytes_eq x) ys ≡ false → filter (is_other x) ys ≡ ys
    others_stay [] none = refl
    others_stay (y ∷ ys) none = elim (cases_Bool (bytes_eq x y)) [
      | inl e ↦ absurd (true≢false (sym (ap (λ b. b || list_any (bytes_eq x) ys) e) ∙ none))
      | inr e ↦ rw e (ap (λ l. y ∷ l) (others_stay ys (rw e at none)))
    ]

-- names are added as they are without repetitions
pub distinct_added : (names xs : List (List ℕ)) → with_new_names names (distinct xs) ≡ with_new_names names xs
distinct_added names xs =
    with_new_names_distinct names (distinct xs)
    ∙ ap (λ l. names ++ filter (is_new names) l) (distinct_once (distinct xs) (none_twice xs))
    ∙ sym (with_new_names_distinct names xs)

-- two lists of names that are added in turn are added as one
pub added_in_turn : (names xs ys : List (List ℕ)) → with_new_names (with_new_names names xs) ys ≡ with_new_names names (xs ++ ys)
added_in_turn names xs ys = sym (fold-append with_new_name names xs ys)

-- two lists of names that are added to none are without repetitions
pub distinct_in_turn : (xs ys : List (List ℕ)) → with_new_names (with_new_names [] xs) ys ≡ distinct (xs ++ ys)
distinct_in_turn xs ys = added_in_turn [] xs ys ∙ names_distinct (xs ++ ys)

-- three lists of names that are added to none, of which the last two are without repetitions
pub distinct_behind : (xs ys zs : List (List ℕ))
    → with_new_names (with_new_names (with_new_names [] xs) ys) zs ≡ with_new_names [] (xs ++ distinct (ys ++ zs))
distinct_behind xs ys zs =
    added_in_turn (with_new_names [] xs) ys zs
    ∙ sym (distinct_added (with_new_names [] xs) (ys ++ zs))
    ∙ added_in_turn [] xs (distinct (ys ++ zs))

-- those of the first items that pass, and the next
pub filter_more : {X : Type 0} (passes : X → Bool) (xs : List X) (i : ℕ) (x : X) → slice_get xs i ≡ Some x
    → filter passes (take (i + 1) xs) ≡ filter passes (take i xs) ++ cond (passes x) (x ∷ []) []
filter_more passes xs i x at = ap (filter passes) (take_next xs i x at) ∙ filter-append passes (take i xs) (x ∷ [])

-- the first names that pass are added, and then the next if it passes
pub passing_more : (passes : List ℕ → Bool) (start names : List (List ℕ)) (i : ℕ) (name : List ℕ) → slice_get names i ≡ Some name
    → (old new : List (List ℕ)) → old ≡ with_new_names start (filter passes (take i names))
    → new ≡ cond (passes name) (with_new_name old name) old → new ≡ with_new_names start (filter passes (take (i + 1) names))
passing_more passes start names i name at old new so_far added =
    added
    ∙ ap (λ l. cond (passes name) (with_new_name l name) l) so_far
    ∙ by (passes name)
    ∙ ap (with_new_names start) (sym (filter_more passes names i name at))
  where
    by : (pass : Bool)
        → cond pass (with_new_name (with_new_names start (filter passes (take i names))) name) (with_new_names start (filter passes (take i names)))
        ≡ with_new_names start (filter passes (take i names) ++ cond pass (name ∷ []) [])
    by true = added_in_turn start (filter passes (take i names)) (name ∷ [])
    by false = ap (with_new_names start) (sym (append-nil (filter passes (take i names))))

-- tests that agree on the items keep the same of them
pub filter_members : {X : Type 0} (p q : X → Bool) (xs : List X) → AllByRecursion (λ x. p x ≡ q x) xs → filter p xs ≡ filter q xs
filter_members p q [] agree = refl
filter_members p q (x ∷ xs) agree = λ i. cond (agree.0 i) (x ∷ filter_members p q xs agree.1 i) (filter_members p q xs agree.1 i)

-- the names of the first items are added, and then that of the next
pub named_more : {X : Type 0} (name : X → List ℕ) (start : List (List ℕ)) (xs : List X) (i : ℕ) (x : X) → slice_get xs i ≡ Some x
    → (old new : List (List ℕ)) → old ≡ with_new_names start (map name (take i xs))
    → new ≡ with_new_name old (name x) → new ≡ with_new_names start (map name (take (i + 1) xs))
named_more name start xs i x at old new so_far added =
    added
    ∙ ap (λ l. with_new_name l (name x)) so_far
    ∙ added_in_turn start (map name (take i xs)) (name x ∷ [])
    ∙ ap (with_new_names start) (sym (map-append name (take i xs) (x ∷ [])))
    ∙ ap (λ l. with_new_names start (map name l)) (sym (take_next xs i x at))
