-- Cells by number: a cell more, and the union of two.
use Rattle.std.proofs.Common.{◌≡◌, ℕ, ◌+◌, ◌-◌, ◌<◌, ◌≤◌, List, [], ◌∷◌, ◌++◌, length, get_or, map, refl, sym, ◌∙◌, ap, inl, inr, arith, Contains}
use Rattle.std.proofs.lemmas.Bool.{cases_lt}
use Rattle.std.proofs.lemmas.List.{length_push, get_or_push, get_or_append_left, length-map, map-append}
use Rattle.cell_sets.specs.Cells.{IsUnion, HaveSame}
use Rattle.cell_sets.proofs.CellsLemmas.{has_first}
use Rattle.quad_mat.specs.Rows.{cell_of, AreFull, AreDifferent, StayDifferent, IsMissingFrom}
use Rattle.quad_mat.specs.Rooms.{NumbersCell, NumbersBoth}
use Rattle.quad_mat.proofs.EntryLemmas.{cell_read, grows_self}

-- a cell that is put behind the others, and is not empty
pub full_push : (cells : List (List ℕ)) (cell : List ℕ) → AreFull cells → (cell ≡ [] → ⊥) → AreFull (cells ++ cell ∷ [])
full_push cells cell full some n within none =
    let longer : length (cells ++ cell ∷ []) ≡ length cells + 1 = length_push cells cell in
    elim (cases_lt n (length cells)) [
      | inl before ↦ full n before (sym (get_or_append_left cells (cell ∷ []) [] n before) ∙ none)
      | inr past ↦
          let last : length cells ≡ n = omega (arith, longer, past, within) in
          some (sym (get_or_push cells cell [] n last) ∙ none)
    ]

-- and has not the symbols of one of them
different_push :
    (cells : List (List ℕ)) (cell : List ℕ) → IsMissingFrom cells 0 cell → AreDifferent cells → AreDifferent (cells ++ cell ∷ [])
different_push cells cell missing different =
    let longer : length (cells ++ cell ∷ []) ≡ length cells + 1 = length_push cells cell in
    let old = λ (n : ℕ) (before : n < length cells). get_or_append_left cells (cell ∷ []) [] n before in
    record {
      each = λ m n order within same. elim (cases_lt n (length cells)) [
        | inl before ↦
            different.each m n order before (rw (old m (omega (arith, order, before)), old n before) at same)
        | inr past ↦
            let first : m < length cells = omega (arith, longer, past, within, order) in
            let last : length cells ≡ n = omega (arith, longer, past, within) in
            let have : HaveSame (cell_of cells m) cell = rw (old m first, get_or_push cells cell [] n last) at same in
            missing m (omega arith) first (λ s. ((have s).1, (have s).0))
      ];
    }

-- so no two have the same symbols where no two had them
pub different_pushed :
    {C : Type 0} (symbols : C → List ℕ) (cells new : List C) (cell : C) (from : ℕ)
    → from ≡ 0 → IsMissingFrom (map symbols cells) from (symbols cell) → new ≡ cells ++ cell ∷ []
    → StayDifferent (map symbols cells) (map symbols new)
different_pushed symbols cells new cell from zero missing is =
    let table : map symbols new ≡ map symbols cells ++ symbols cell ∷ [] = ap (map symbols) is ∙ map-append symbols cells (cell ∷ []) in
    rw table (record { each = different_push (map symbols cells) (symbols cell) (rw zero at missing) })

-- the same cells
pub stay_same : (cells : List (List ℕ)) → StayDifferent cells cells
stay_same cells = record { each = λ different. different }

-- from the first cells to the third by the second
pub stay_then : (old now new : List (List ℕ)) → StayDifferent old now → StayDifferent now new → StayDifferent old new
stay_then old now new one other = record { each = λ different. other.each (one.each different) }

-- it is the last of them
pub numbers_pushed :
    {C : Type 0} (symbols : C → List ℕ) (cells new : List C) (cell : C) (n : ℕ)
    → AreFull (map symbols cells) → (symbols cell ≡ [] → ⊥) → n ≡ length cells → new ≡ cells ++ cell ∷ []
    → NumbersCell (map symbols cells) (map symbols new) (symbols cell) n
numbers_pushed symbols cells new cell n full some last is =
    let table : map symbols new ≡ map symbols cells ++ symbols cell ∷ [] = ap (map symbols) is ∙ map-append symbols cells (cell ∷ []) in
    let count : length (map symbols cells) ≡ length cells = length-map cells symbols in
    let longer : length (map symbols cells ++ symbols cell ∷ []) ≡ length (map symbols cells) + 1 = length_push (map symbols cells) (symbols cell) in
    let there : cell_of (map symbols cells ++ symbols cell ∷ []) n ≡ symbols cell =
    get_or_push (map symbols cells) (symbols cell) [] n (count ∙ sym last) in
    rw table (record {
      grows = (symbols cell ∷ [], refl);
      full = full_push (map symbols cells) (symbols cell) full some;
      within = omega (arith, longer, count, last);
      same = λ s. ((λ has. rw there has), (λ has. rw there at has));
    })

-- a cell that was there already
pub numbers_found :
    (cells : List (List ℕ)) (symbols : List ℕ) (n place count : ℕ)
    → AreFull cells → n ≡ place → count ≡ length cells → (place < count) × HaveSame symbols (cell_of cells place)
    → NumbersCell cells cells symbols n
numbers_found cells symbols n place count full is same_count there = record {
  grows = grows_self cells;
  full = full;
  within = omega (arith, is, same_count, there.0);
  same = rw is there.1;
}

-- what has a number is not empty
pub has_some : (xs : List ℕ) (s : ℕ) → Contains xs s → xs ≡ [] → ⊥
has_some xs s has none = let there : Contains [] s = rw none at has in omega (arith, there.1)

-- a list that is not empty has a number
some_has : (xs : List ℕ) → (xs ≡ [] → ⊥) → (s : ℕ) × Contains xs s
some_has [] some = absurd (some refl)
some_has (x ∷ xs) some = (x, has_first x xs)

-- the union with a cell that is not empty is not empty
pub union_some :
    {C : Type 0} (symbols : C → List ℕ) (cells : List C) (a : ℕ) (c both : C) (other : List ℕ)
    → AreFull (map symbols cells) → a < length cells → c ≡ get_or cells a c → IsUnion (symbols c) other (symbols both)
    → symbols both ≡ [] → ⊥
union_some symbols cells a c both other full within is union none =
    let read = cell_read symbols cells a c within is in
    let count : length (map symbols cells) ≡ length cells = length-map cells symbols in
    let x = some_has (symbols c) (λ empty. full a (omega (arith, count, within)) (read ∙ empty)) in
    has_some (symbols both) x.0 ((union x.0).1 (inl x.1)) none

-- the number of the union of two cells, which are read at their places
pub numbers_both :
    {C : Type 0} (symbols : C → List ℕ) (cells new : List C) (a b n : ℕ) (c d both : C)
    → a < length cells → b < length cells → c ≡ get_or cells a c → d ≡ get_or cells b d
    → IsUnion (symbols c) (symbols d) (symbols both)
    → NumbersCell (map symbols cells) (map symbols new) (symbols both) n
    → NumbersBoth (map symbols cells) (map symbols new) a b n
numbers_both symbols cells new a b n c d both in_a in_b is_c is_d union number = record {
  grows = number.grows;
  full = number.full;
  within = number.within;
  both = λ s.
      rw (cell_read symbols cells a c in_a is_c, cell_read symbols cells b d in_b is_d) (
        (λ has. (union s).0 ((number.same s).1 has)),
        (λ has. (number.same s).0 ((union s).1 has)),
      );
}

-- a cell is the union of itself and itself
pub numbers_self :
    (cells : List (List ℕ)) (a b count : ℕ) → AreFull cells → count ≡ length cells → a < count → a ≡ b → NumbersBoth cells cells a b a
numbers_self cells a b count full same_count within is = record {
  grows = grows_self cells;
  full = full;
  within = omega (arith, same_count, within);
  both = λ s. rw (← is) ((λ has. inl has), (elim [ inl has ↦ has | inr has ↦ has ]));
}

-- the union of an empty cell and another has the same as the other
pub copy_same : (none other both : List ℕ) → none ≡ [] → IsUnion none other both → HaveSame other both
copy_same none other both empty union s = (
  (λ has. (union s).1 (inr has)),
  (λ has. elim ((union s).0 has) [
    | inl first ↦ let there : Contains [] s = rw empty at first in absurd (omega (arith, there.1))
    | inr second ↦ second
  ]),
)

-- and is not empty where the other is not
pub same_some : (other both : List ℕ) → HaveSame other both → (other ≡ [] → ⊥) → both ≡ [] → ⊥
same_some other both same some none =
    let x = some_has other some in has_some both x.0 ((same x.0).0 x.1) none

-- a cell at a place, with the same symbols
pub place_same :
    {C : Type 0} (symbols : C → List ℕ) (cells : List C) (place : ℕ) (c : C) (other : List ℕ)
    → place < length cells → c ≡ get_or cells place c → HaveSame other (symbols c)
    → (place < length cells) × HaveSame other (cell_of (map symbols cells) place)
place_same symbols cells place c other within is same = (within, rw (cell_read symbols cells place c within is) same)

-- a cell at a place, without just these symbols
pub place_differs :
    {C : Type 0} (symbols : C → List ℕ) (cells : List C) (place : ℕ) (c : C) (other : List ℕ)
    → place < length cells → c ≡ get_or cells place c → (HaveSame other (symbols c) → ⊥)
    → HaveSame other (cell_of (map symbols cells) place) → ⊥
place_differs symbols cells place c other within is differs same =
    differs (rw (cell_read symbols cells place c within is) at same)

-- where none is such from a place on, and the one before it is not, none is from that one on
pub none_from_before :
    (Is : ℕ → Type 0) (place count : ℕ)
    → ((n : ℕ) → place ≤ n → n < count → Is n → ⊥) → (Is (place - 1) → ⊥)
    → (n : ℕ) → place - 1 ≤ n → n < count → Is n → ⊥
none_from_before Is place count none not_before n from within is =
    elim (cases_lt n place) [
      | inl below ↦
          let same : n ≡ place - 1 = omega (arith, from, below) in
          not_before (rw same at is)
      | inr past ↦ none n past within is
    ]
