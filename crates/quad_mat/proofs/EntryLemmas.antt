-- What a row has at a column.
use Rattle.std.proofs.Common.{◌≡◌, ℕ, zero, suc, ◌+◌, ◌<◌, ◌≤◌, ◌≢◌, ◌↔◌, ◌⊎◌, List, [], ◌∷◌, ◌++◌, length, get_or, map, refl, sym, ◌∙◌, ap, subst, inl, inr, arith, Contains}
use Rattle.std.specs.Prelude.{Result, Ok, Err}
use Rattle.std.specs.List.Sorted.{IsSearchInRange, IsBinarySearchResult, IsNonDecreasingBy}
use Rattle.std.specs.Ordering.{nat_cmp, ordering_index}
use Rattle.std.proofs.lemmas.Bool.{cases_lt, cases_eq}
use Rattle.std.proofs.lemmas.Cmp.{ranked}
use Rattle.std.proofs.lemmas.List.{length_push, get_or_push, get_or_append_left, get_or-map, length-map, length-append, append-nil, append_assoc}
use Rattle.std.proofs.lemmas.Bool.Decides.{nat_tests}
use Rattle.quad_mat.specs.declared.entries.Entry.{Entry}
use Rattle.quad_mat.specs.Rows.{cell_of, found, blank, EntryHas, FirstHas, RowHas, HasRisingColumns, AreCellsBelow, AreFull, IsRow, IsColumnPlace, Grows}

-- behind its first entry a row has rising columns
rising_tail : (e : Entry) (row : List Entry) → HasRisingColumns (e ∷ row) → HasRisingColumns row
rising_tail e row rising m n d order within = rising (suc m) (suc n) d (omega arith) (omega arith)

module _ (row : List Entry) (rising : HasRisingColumns row) (column : ℕ) where
  -- the comparisons with a column rise along the row, as a binary search asks
  comparisons_rise : IsNonDecreasingBy (λ (e : Entry). ordering_index (nat_cmp e.column column)) row
  comparisons_rise i j d order within =
      let rise : (get_or row i d).column ≤ (get_or row j d).column =
      grind (arith, rising i j d, λ (same : i ≡ j). ap (λ n. (get_or row n d).column) same) in
      grind (arith, nat_tests)

  -- a binary search by columns answers the place of a column
  pub searched :
      (place : Result ℕ ℕ) → IsSearchInRange place (length row)
      → IsBinarySearchResult (λ (e : Entry). nat_cmp e.column column) row place
      → IsColumnPlace row column place
  searched (Ok at) within equal = (within, λ d. ranked _ column _ (sym (equal d)))
  searched (Err at) within parted = λ k d in_row same.
      elim (cases_lt k at) [
        | inl before ↦
            let below : (get_or row k d).column < column =
            ranked _ column _ (sym ((parted comparisons_rise).0 k d (omega arith) before)) in
            omega (arith, below, same)
        | inr behind ↦
            let above : column < (get_or row k d).column =
            ranked _ column _ (sym ((parted comparisons_rise).1 k d behind in_row)) in
            omega (arith, above, same)
      ]

-- at the column of its first entry a row has the symbols of that entry
found_first :
    (cells : List (List ℕ)) (e : Entry) (row : List Entry) (column : ℕ)
    → e.column ≡ column → found cells (e ∷ row) column ≡ cell_of cells e.cell
found_first cells e row column same = grind (arith, nat_tests)

-- at another column it has what the entries behind have
found_behind :
    (cells : List (List ℕ)) (e : Entry) (row : List Entry) (column : ℕ)
    → e.column ≢ column → found cells (e ∷ row) column ≡ found cells row column
found_behind cells e row column other = grind (arith, nat_tests)

-- where no entry has the column, the row has nothing at it
pub found_none :
    (cells : List (List ℕ)) (row : List Entry) (column : ℕ)
    → ((k : ℕ) (d : Entry) → k < length row → (get_or row k d).column ≢ column)
    → found cells row column ≡ []
found_none cells [] column missing = refl
found_none cells (e ∷ row) column missing =
    rw (found_behind cells e row column (missing 0 e (omega arith)))
    (found_none cells row column (λ k d within. missing (suc k) d (omega arith)))

-- where the entry at a place has the column, the row has the symbols of that entry
pub found_place :
    (cells : List (List ℕ)) (row : List Entry) (column at : ℕ) (d : Entry)
    → HasRisingColumns row → at < length row → (get_or row at d).column ≡ column
    → found cells row column ≡ cell_of cells (get_or row at d).cell
found_place cells [] column at d rising within same = absurd (omega arith)
found_place cells (e ∷ row) column zero d rising within same = found_first cells e row column same
found_place cells (e ∷ row) column (suc at) d rising within same =
    let before : e.column < (get_or row at d).column = rising 0 (suc at) d (omega arith) within in
    rw (found_behind cells e row column (λ is. omega (arith, before, same, is)))
    (found_place cells row column at d (rising_tail e row rising) (omega arith) same)

-- what a row has at a column is in one of its entries
found_has : (cells : List (List ℕ)) (row : List Entry) (column s : ℕ) → Contains (found cells row column) s → RowHas cells row column s
found_has cells [] column s has = absurd (omega (arith, has.1))
found_has cells (e ∷ row) column s has =
    elim (cases_eq e.column column) [
      | inl same ↦ (0, omega arith, (same, rw (found_first cells e row column same) at has))
      | inr other ↦
          let x = found_has cells row column s (rw (found_behind cells e row column other) at has) in
          (suc x.0, omega (arith, x.1), x.2)
    ]

-- a row has at a column what its entries have there
pub has_found :
    (cells : List (List ℕ)) (row : List Entry) (column s : ℕ)
    → HasRisingColumns row → RowHas cells row column s ↔ Contains (found cells row column) s
has_found cells row column s rising = (
  (λ h. rw (found_place cells row column h.0 blank rising h.1 h.2.0) h.2.1),
  found_has cells row column s,
)

-- an empty row has nothing
pub has_none : (cells : List (List ℕ)) (column s : ℕ) → RowHas cells [] column s → ⊥
has_none cells column s h = omega (arith, h.1)

-- the first entries, and one more
pub first_more :
    (cells : List (List ℕ)) (row : List Entry) (n column s : ℕ)
    → FirstHas cells row (n + 1) column s
    ↔ (FirstHas cells row n column s ⊎ EntryHas cells (get_or row n blank) column s)
first_more cells row n column s = (
  (λ h. elim (cases_lt h.0 n) [
    | inl before ↦ inl (h.0, before, h.2)
    | inr past ↦
        let last : h.0 ≡ n = omega (arith, past, h.1) in
        let At : ℕ → Type 0 = λ k. EntryHas cells (get_or row k blank) column s in
        inr (subst At last h.2)
  ]),
  (elim [
    | inl h ↦ (h.0, omega (arith, h.1), h.2)
    | inr h ↦ (n, omega arith, h)
  ]),
)

module _ (row : List Entry) (e : Entry) where
  -- with an entry more, the entry too has its symbols
  pub push_has :
      (cells : List (List ℕ)) (column s : ℕ)
      → RowHas cells (row ++ e ∷ []) column s ↔ (RowHas cells row column s ⊎ EntryHas cells e column s)
  push_has cells column s =
      let longer : length (row ++ e ∷ []) ≡ length row + 1 = length_push row e in (
        (λ h. elim (cases_lt h.0 (length row)) [
          | inl before ↦ inl (h.0, before, rw (get_or_append_left row (e ∷ []) blank h.0 before) at h.2)
          | inr past ↦
              let last : h.0 ≡ length row = omega (arith, longer, past, h.1) in
              inr (rw (get_or_push row e blank h.0 (sym last)) at h.2)
        ]),
        (elim [
          | inl h ↦ (h.0, omega (arith, longer, h.1), rw (get_or_append_left row (e ∷ []) blank h.0 h.1) h.2)
          | inr h ↦ (length row, omega (arith, longer), rw (get_or_push row e blank (length row) refl) h)
        ]),
      )

  module _ (count columns : ℕ) (is : IsRow count columns row)
      (above : (k : ℕ) (d : Entry) → k < length row → (get_or row k d).column < e.column) where
    -- and it is a row where the entry's column is above the others
    pub push_row : e.column < columns → e.cell < count → IsRow count columns (row ++ e ∷ [])
    push_row low known = record {
      rising = rising;
      columns_below = λ k d within. elim (cases_lt k (length row)) [
        | inl before ↦ rw (get_or_append_left row (e ∷ []) d k before) (is.columns_below k d before)
        | inr past ↦
            let last : length row ≡ k = omega (arith, longer, past, within) in
            rw (get_or_push row e d k last) low
      ];
      cells_below = λ k d within. elim (cases_lt k (length row)) [
        | inl before ↦ rw (get_or_append_left row (e ∷ []) d k before) (is.cells_below k d before)
        | inr past ↦
            let last : length row ≡ k = omega (arith, longer, past, within) in
            rw (get_or_push row e d k last) known
      ];
    }
      where
        longer : length (row ++ e ∷ []) ≡ length row + 1
        longer = length_push row e

        rising : HasRisingColumns (row ++ e ∷ [])
        rising m n d order below =
            let first : get_or (row ++ e ∷ []) m d ≡ get_or row m d =
            get_or_append_left row (e ∷ []) d m (omega (arith, longer)) in
            elim (cases_lt n (length row)) [
              | inl before ↦ rw (first, get_or_append_left row (e ∷ []) d n before) (is.rising m n d order before)
              | inr past ↦
                  let last : length row ≡ n = omega (arith, longer, past, below) in
                  rw (first, get_or_push row e d n last) (above m d (omega (arith, longer)))
            ]

-- a row without entries
pub row_none : (count columns : ℕ) → IsRow count columns []
row_none count columns = record {
  rising = λ m n d order within. absurd (omega arith);
  columns_below = λ k d within. absurd (omega arith);
  cells_below = λ k d within. absurd (omega arith);
}

-- a row over cells is one over more cells
pub row_grows : (count more columns : ℕ) (row : List Entry) → count ≤ more → IsRow count columns row → IsRow more columns row
row_grows count more columns row order is = record {
  rising = is.rising;
  columns_below = is.columns_below;
  cells_below = λ k d within. omega (arith, order, is.cells_below k d within);
}

-- what grows is no shorter
pub grows_length : {X : Type 0} (old new : List X) → Grows old new → length old ≤ length new
grows_length old new (more, is) = rw is (omega (arith, length-append old more))

-- and keeps what stood there
pub grows_read : {X : Type 0} (old new : List X) (d : X) (n : ℕ) → Grows old new → n < length old → get_or new n d ≡ get_or old n d
grows_read old new d n (more, is) within = rw is (get_or_append_left old more d n within)

pub grows_self : {X : Type 0} (xs : List X) → Grows xs xs
grows_self xs = ([], sym (append-nil xs))

pub grows_push : {X : Type 0} (xs : List X) (x : X) → Grows xs (xs ++ x ∷ [])
grows_push xs x = (x ∷ [], refl)

pub grows_then : {X : Type 0} (one two three : List X) → Grows one two → Grows two three → Grows one three
grows_then one two three (more, is) (rest, same) =
    (more ++ rest, same ∙ ap (λ xs. xs ++ rest) is ∙ append_assoc one more rest)

-- an entry over cells has the same over more cells
pub entry_grows :
    (old new : List (List ℕ)) (e : Entry) (column s : ℕ)
    → Grows old new → e.cell < length old → EntryHas old e column s ↔ EntryHas new e column s
entry_grows old new e column s grows within =
    let same = grows_read old new [] e.cell grows within in
    ((λ h. (h.0, rw same h.1)), (λ h. (h.0, rw same at h.1)))

-- and so has a row
pub has_grows :
    (old new : List (List ℕ)) (row : List Entry) (n column s : ℕ)
    → Grows old new → AreCellsBelow (length old) row → n ≤ length row
    → FirstHas old row n column s ↔ FirstHas new row n column s
has_grows old new row n column s grows known all = (
  (λ h. (h.0, h.1, (entry_grows old new (get_or row h.0 blank) column s grows (known h.0 blank (omega (arith, h.1)))).0 h.2)),
  (λ h. (h.0, h.1, (entry_grows old new (get_or row h.0 blank) column s grows (known h.0 blank (omega (arith, h.1)))).1 h.2)),
)

-- the cell at a place, seen as its symbols
pub cell_read :
    {C : Type 0} (symbols : C → List ℕ) (cells : List C) (n : ℕ) (c : C)
    → n < length cells → c ≡ get_or cells n c → cell_of (map symbols cells) n ≡ symbols c
cell_read symbols cells n c within is =
    get_or-map symbols cells n c [] within ∙ ap symbols (sym is)

-- the cell of the entry at a column's place has what the row has at the column
pub cell_found :
    {C : Type 0} (symbols : C → List ℕ) (cells : List C) (row : List Entry) (column at : ℕ) (c : C)
    → HasRisingColumns row → AreCellsBelow (length (map symbols cells)) row → at < length row
    → ((d : Entry) → (get_or row at d).column ≡ column) → c ≡ get_or cells (get_or row at blank).cell c
    → symbols c ≡ found (map symbols cells) row column
cell_found symbols cells row column at c rising known within same is_c =
    sym (found_place (map symbols cells) row column at blank rising within (same blank)
    ∙ cell_read symbols cells (get_or row at blank).cell c (omega (arith, length-map cells symbols, known at blank within)) is_c)

-- a cell that is kept is not empty
pub cell_some :
    {C : Type 0} (symbols : C → List ℕ) (cells : List C) (n : ℕ) (c : C)
    → AreFull (map symbols cells) → n < length (map symbols cells) → c ≡ get_or cells n c → symbols c ≡ [] → ⊥
cell_some symbols cells n c full within is none =
    full n within (cell_read symbols cells n c (omega (arith, length-map cells symbols, within)) is ∙ none)
