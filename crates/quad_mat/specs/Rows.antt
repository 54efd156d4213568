-- Serves the proofs alone. Rows as lists of entries, each the number of a cell at its column.
use Rattle.std.specs.Prelude.{◌≡◌, ℕ, ◌<◌, ◌≤◌, ◌≢◌, List, [], ◌∷◌, ◌++◌, length, slice_index_or}
use Rattle.std.specs.Prelude.{if◌then◌else◌, ◌==◌, Result, MatchResult, Contains}
use Rattle.cell_sets.specs.Cells.{HaveSame}
use Rattle.quad_mat.specs.declared.entries.Entry.{Entry}

-- the symbols of the cell of this number
abbrev pub cell_of : List (List ℕ) → ℕ → List ℕ
cell_of cells n = slice_index_or cells n []

-- the symbols that the row has at the column
abbrev pub found : List (List ℕ) → List Entry → ℕ → List ℕ
found cells [] column = []
found cells (e ∷ row) column =
    if e.column == column then cell_of cells e.cell else found cells row column

-- what is read where there is no entry
abbrev pub blank : Entry
blank = record { column = 0; cell = 0 }

-- the entry has the symbol at the column
abbrev pub EntryHas : List (List ℕ) → Entry → ℕ → ℕ → Type 0
EntryHas cells e column s = (e.column ≡ column) × Contains (cell_of cells e.cell) s

-- one of the first entries, so many of them, has the symbol at the column
abbrev pub FirstHas : List (List ℕ) → List Entry → ℕ → ℕ → ℕ → Type 0
FirstHas cells row count column s =
    (k : ℕ) × (k < count) × EntryHas cells (slice_index_or row k blank) column s

-- an entry of the row has the symbol at the column
abbrev pub RowHas : List (List ℕ) → List Entry → ℕ → ℕ → Type 0
RowHas cells row column s = FirstHas cells row (length row) column s

-- each column is below those behind it
abbrev pub HasRisingColumns : List Entry → Type 0
HasRisingColumns row =
    (m n : ℕ) (d : Entry) → m < n → n < length row
    → (slice_index_or row m d).column < (slice_index_or row n d).column

-- the column of the entry at the place, which is in the row
abbrev pub column_at : List Entry → ℕ → ℕ
column_at row k = (slice_index_or row k blank).column

-- each column is below the count
abbrev pub AreColumnsBelow : ℕ → List Entry → Type 0
AreColumnsBelow columns row =
    (k : ℕ) (d : Entry) → k < length row → (slice_index_or row k d).column < columns

-- each entry names one of so many cells
abbrev pub AreCellsBelow : ℕ → List Entry → Type 0
AreCellsBelow count row =
    (k : ℕ) (d : Entry) → k < length row → (slice_index_or row k d).cell < count

-- the row is one over so many cells, with so many columns
pub record IsRow (count columns : ℕ) (row : List Entry) : Type 0 where
  pub rising : HasRisingColumns row
  pub columns_below : AreColumnsBelow columns row
  pub cells_below : AreCellsBelow count row

-- the entry of the column stands at the place, or the row has none
abbrev pub IsColumnPlace : List Entry → ℕ → Result ℕ ℕ → Type 0
IsColumnPlace row column place = MatchResult place
    (λ at. (at < length row) × ((d : Entry) → (slice_index_or row at d).column ≡ column))
    (λ _. (k : ℕ) (d : Entry) → k < length row → (slice_index_or row k d).column ≢ column)

-- no cell is empty
abbrev pub AreFull : List (List ℕ) → Type 0
AreFull cells = (n : ℕ) → n < length cells → cell_of cells n ≡ [] → ⊥

-- no two cells have the same symbols
pub record AreDifferent (cells : List (List ℕ)) : Type 0 where
  pub each :
      (m n : ℕ) → m < n → n < length cells → HaveSame (cell_of cells m) (cell_of cells n) → ⊥

-- where no two of the old cells have the same symbols, no two of the new ones do
pub record StayDifferent (old new : List (List ℕ)) : Type 0 where
  pub each : AreDifferent old → AreDifferent new

-- no cell from the place on has just these symbols
abbrev pub IsMissingFrom : List (List ℕ) → ℕ → List ℕ → Type 0
IsMissingFrom cells from symbols =
    (n : ℕ) → from ≤ n → n < length cells → HaveSame symbols (cell_of cells n) → ⊥

-- the new list begins with the old one
abbrev pub Grows : {X : Type 0} → List X → List X → Type 0
Grows {X} old new = (more : List X) × (new ≡ old ++ more)

-- the row of this number
abbrev pub row_of : List (List Entry) → ℕ → List Entry
row_of rows n = slice_index_or rows n []
