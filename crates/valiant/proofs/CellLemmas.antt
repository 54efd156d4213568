-- Cells by their ends, to which the cuts at the ends of a row's entries are added one by one.
use Rattle.std.proofs.Common.{◌≡◌, ℕ, zero, suc, ◌+◌, ◌<◌, ◌≤◌, ◌≢◌, List, [], ◌∷◌, ◌++◌, Some, length, slice_get, get_or, take, set, refl, sym, ◌∙◌, ap, subst, inl, inr, arith, Contains}
use Rattle.std.proofs.lemmas.Bool.{cases_eq}
use Rattle.std.proofs.lemmas.Option.{slice_get_within, slice_get-get_or, slice_get_read}
use Rattle.std.proofs.lemmas.List.{get_or_read, get_or-take, take_more, take_all, length-take-le, length-set}
use Rattle.spec_grammar.specs.Grammars.{Grammar}
use Rattle.cell_sets.proofs.CellsLemmas.{has_first}
use Rattle.binary_form.specs.BinaryForm.{AddsProductOf}
use Rattle.valiant.specs.declared.rows.Entry.{Entry}
use Rattle.valiant.specs.Rows.{found, HasRisingEnds}
use Rattle.valiant.specs.Filling.{AddsCut, AddsCuts}
use Rattle.valiant.proofs.RowLemmas.{found_none, found_push_other, found_push_same}

-- where a product with nothing was added before, what is added now is all
adds_after_none :
    (g : Grammar) (left right one two three : List ℕ)
    → AddsProductOf g left [] one two → AddsProductOf g left right two three
    → AddsProductOf g left right one three
adds_after_none g left right one two three none some n = (
  (λ has. elim ((some n).0 has) [
    | inl kept ↦ elim ((none n).0 kept) [
      | inl first ↦ inl first
      | inr made ↦ absurd (omega (arith, made.3.1))
    ]
    | inr made ↦ inr made
  ]),
  (elim [
    | inl first ↦ (some n).1 (inl ((none n).1 (inl first)))
    | inr made ↦ (some n).1 (inr made)
  ]),
)

-- a list that has no number is empty
nothing_there : (xs : List ℕ) → ((n : ℕ) → Contains xs n → ⊥) → xs ≡ []
nothing_there [] none = refl
nothing_there (x ∷ xs) none = absurd (none x (has_first x xs))

-- where nothing stands behind a cut, an empty cell stays empty
pub stays_empty :
    (g : Grammar) (left one two : List ℕ)
    → one ≡ [] → AddsProductOf g left [] one two → two ≡ []
stays_empty g left one two empty adds = nothing_there two has_none
  where
    has_none : (n : ℕ) → Contains two n → ⊥
    has_none n has = elim ((adds n).0 has) [
      | inl kept ↦ let there : Contains [] n = rw empty at kept in omega (arith, there.1)
      | inr made ↦ omega (arith, made.3.1)
    ]

-- what is written at a place of a list is there
pub get_set_same :
    {C : Type 0} (xs : List C) (k : ℕ) (x : C) → k < length xs → slice_get (set xs k x) k ≡ Some x
get_set_same [] k x within = absurd (omega arith)
get_set_same (y ∷ ys) zero x within = refl
get_set_same (y ∷ ys) (suc k) x within = get_set_same ys k x (omega arith)

-- and the other places stay as they are
pub get_set_other :
    {C : Type 0} (xs : List C) (k j : ℕ) (x : C)
    → j ≢ k → slice_get (set xs k x) j ≡ slice_get xs j
get_set_other [] k j x other = refl
get_set_other (y ∷ ys) zero zero x other = absurd (other refl)
get_set_other (y ∷ ys) zero (suc j) x other = refl
get_set_other (y ∷ ys) (suc k) zero x other = refl
get_set_other (y ∷ ys) (suc k) (suc j) x other =
    get_set_other ys k j x (λ same. other (ap suc same))

module _ {C : Type 0} (symbols : C → List ℕ) (g : Grammar) (left : List ℕ) where
  -- a cell with the product too, written at the end of an entry in the place of what stood there
  -- meanwhile, adds the cut
  pub cut_set :
      (e : Entry C) (cells : List C) (cell other both : C)
      → e.end < length cells → cell ≡ get_or cells e.end cell
      → AddsProductOf g left (symbols e.cell) (symbols cell) (symbols both)
      → AddsCut symbols g left e cells (set (set cells e.end other) e.end both)
  cut_set e cells cell other both within is adds = record {
    count = length-set (set cells e.end other) e.end both ∙ length-set cells e.end other;
    at = λ c d is_c is_d.
        let is_cell : slice_get cells e.end ≡ Some cell =
        slice_get_read cells (length cells) e.end cell refl within is in
        let inside : e.end < length (set cells e.end other) = omega (arith, within, length-set cells e.end other) in
        let is_both = get_set_same (set cells e.end other) e.end both inside in
        let same_c : cell ≡ c = cc in
        let same_d : both ≡ d = cc in
        rw (← same_c, ← same_d) adds;
    others = λ j apart.
        get_set_other (set cells e.end other) e.end j both apart ∙ get_set_other cells e.end j other apart;
  }

  -- a row without entries adds nothing
  pub cuts_start : (cells : List C) → AddsCuts symbols g left [] cells cells
  cuts_start cells = record {
    count = refl;
    each = λ j c d is_c is_d n.
        let same : c ≡ d = cc in (
          (λ has. inl (rw same has)),
          (elim [
            | inl has ↦ rw same at has
            | inr made ↦ absurd (omega (arith, made.3.1))
          ]),
        );
  }

  module _ (behind : List (Entry C)) (rising : HasRisingEnds behind) (many : ℕ) (e : Entry C)
      (old mid new : List C) (within : many < length behind) (is : e ≡ get_or behind many e)
      (before : AddsCuts symbols g left (take many behind) old mid)
      (adds : AddsCut symbols g left e mid new) where
    -- the entries so far
    abbrev front : List (Entry C)
    front = take many behind

    -- none of them has the end of the next
    none_at : (k : ℕ) (d : Entry C) → k < length front → (get_or front k d).end ≢ e.end
    none_at k d below same =
        let short : k < many = omega (arith, length-take-le many behind) in
        let here : get_or front k d ≡ get_or behind k d = get_or-take many behind k d short in
        let next : e ≡ get_or behind many d = get_or_read behind many e within is d in
        let order : (get_or behind k d).end < (get_or behind many d).end = rising k many d short within in
        omega (arith, order, ap (λ (x : Entry C). x.end) here, ap (λ (x : Entry C). x.end) next, same)

    -- with the next entry
    each_more :
        (j : ℕ) (c d : C)
        → slice_get old j ≡ Some c → slice_get new j ≡ Some d
        → AddsProductOf g left (found symbols (front ++ e ∷ []) j) (symbols c) (symbols d)
    each_more j c d is_c is_d =
        let in_mid : j < length mid = omega (arith, before.count, slice_get_within old j c is_c) in
        let m = get_or mid j c in
        let is_m : slice_get mid j ≡ Some m = slice_get-get_or mid j c in_mid in
        let first = before.each j c m is_c is_m in
        elim (cases_eq j e.end) [
          | inl at ↦
              let Here : ℕ → Type 0 = λ x. AddsProductOf g left (found symbols (front ++ e ∷ []) x) (symbols c) (symbols d) in
              let Mid : ℕ → Type 0 = λ x. slice_get mid x ≡ Some m in
              let m_at : slice_get mid e.end ≡ Some m = subst Mid at is_m in
              let New : ℕ → Type 0 = λ x. slice_get new x ≡ Some d in
              let d_at : slice_get new e.end ≡ Some d = subst New at is_d in
              let Nothing : ℕ → Type 0 = λ x. AddsProductOf g left (found symbols front x) (symbols c) (symbols m) in
              let none : AddsProductOf g left [] (symbols c) (symbols m) =
              rw (found_none symbols front e.end none_at) at (subst Nothing at first) in
              subst Here (sym at) (rw (found_push_same symbols front e none_at)
              (adds_after_none g left (symbols e.cell) (symbols c) (symbols m) (symbols d) none (adds.at m d m_at d_at)))
          | inr other ↦
              let same : slice_get new j ≡ slice_get mid j = adds.others j other in
              let same_cell : m ≡ d = cc in
              rw (found_push_other symbols front e j (λ at. other (sym at))) (rw same_cell at first)
        ]

    -- the cuts of one entry more are added
    pub cuts_more : AddsCuts symbols g left (take (many + 1) behind) old new
    cuts_more =
        let longer : take (many + 1) behind ≡ front ++ e ∷ [] = rw (take_more behind many e within, ← is) refl in
        rw longer (record { count = adds.count ∙ before.count; each = each_more })

  -- the cuts of all entries are added
  pub cuts_all :
      (behind : List (Entry C)) (many : ℕ) (old new : List C)
      → length behind ≤ many → AddsCuts symbols g left (take many behind) old new
      → AddsCuts symbols g left behind old new
  cuts_all behind many old new all cuts = rw (take_all many behind all) at cuts
