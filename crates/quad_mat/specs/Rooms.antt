-- Serves the proofs alone. Rooms: cells and rows by their numbers. Both are only added to, so that
-- a number keeps its meaning, and what is remembered stays true.
use Rattle.std.specs.Prelude.{◌≡◌, ℕ, ◌+◌, ◌<◌, ◌≤◌, ◌↔◌, ◌⊎◌, List, [], length, slice_index_or}
use Rattle.std.specs.Prelude.{Contains}
use Rattle.cell_sets.specs.Cells.{IsUnion, HaveSame}
use Rattle.quad_mat.specs.declared.entries.Entry.{Entry}
use Rattle.quad_mat.specs.declared.merging.Side.{Side}
use Rattle.quad_mat.specs.declared.merging.Side.TheVariants.{Left, Right, Both}
use Rattle.quad_mat.specs.declared.merging.Step.{Step}
use Rattle.quad_mat.specs.declared.room.RowUnion.{RowUnion}
use Rattle.quad_mat.specs.Rows.{cell_of, blank, EntryHas, FirstHas, RowHas, column_at, IsRow}
use Rattle.quad_mat.specs.Rows.{AreFull, Grows, row_of}

-- the number is that of a cell with these symbols, among the cells that there are then
pub record NumbersCell (old new : List (List ℕ)) (symbols : List ℕ) (n : ℕ) : Type 0 where
  pub grows : Grows old new
  pub full : AreFull new
  pub within : n < length new
  pub same : HaveSame symbols (cell_of new n)

-- the number is that of a cell with what two cells have
pub record NumbersBoth (old new : List (List ℕ)) (a b n : ℕ) : Type 0 where
  pub grows : Grows old new
  pub full : AreFull new
  pub within : n < length new
  pub both : IsUnion (cell_of old a) (cell_of old b) (cell_of new n)

-- the next entry of two rows is that at the place of the one, of the other, or of both
abbrev pub IsNextSide : List Entry → List Entry → ℕ → ℕ → Side → Type 0
IsNextSide left right i j Left =
    (i < length left) × (j < length right → column_at left i < column_at right j)
IsNextSide left right i j Right =
    (j < length right) × (i < length left → column_at right j < column_at left i)
IsNextSide left right i j Both =
    (i < length left) × (j < length right) × (column_at left i ≡ column_at right j)

-- the place passes an entry of the same column, or stays before a greater one
abbrev pub Passes : List Entry → ℕ → ℕ → Entry → Type 0
Passes row k next e =
    ((next ≡ k + 1) × (k < length row) × (e.column ≡ column_at row k))
    ⊎ ((next ≡ k) × (k < length row → e.column < column_at row k))

-- the place passes its entry, which has the symbol at the column
abbrev pub PassesSymbol : List (List ℕ) → List Entry → ℕ → ℕ → ℕ → ℕ → Type 0
PassesSymbol cells row k next column s =
    (next ≡ k + 1) × EntryHas cells (slice_index_or row k blank) column s

-- the step has the next entry of two rows, with the symbols of those that are passed
pub record IsStep (old new : List (List ℕ)) (left right : List Entry) (i j : ℕ) (step : Step)
    : Type 0 where
  pub grows : Grows old new
  pub full : AreFull new
  pub within : step.entry.cell < length new
  pub passes_left : Passes left i step.i step.entry
  pub passes_right : Passes right j step.j step.entry
  pub further : i + j < step.i + step.j
  pub has :
      (column s : ℕ) → EntryHas new step.entry column s
      ↔ (PassesSymbol old left i step.i column s ⊎ PassesSymbol old right j step.j column s)

-- the row has what two rows have up to their places, and its columns are below those there
pub record IsMergedUpTo (columns : ℕ) (old new : List (List ℕ)) (left right : List Entry)
    (i j : ℕ) (row : List Entry) : Type 0 where
  pub left_within : i ≤ length left
  pub right_within : j ≤ length right
  pub grows : Grows old new
  pub full : AreFull new
  pub is_row : IsRow (length new) columns row
  pub below_left :
      (k : ℕ) (d : Entry) → k < length row → i < length left
      → (slice_index_or row k d).column < column_at left i
  pub below_right :
      (k : ℕ) (d : Entry) → k < length row → j < length right
      → (slice_index_or row k d).column < column_at right j
  pub has :
      (column s : ℕ) → RowHas new row column s
      ↔ (FirstHas old left i column s ⊎ FirstHas old right j column s)

-- the row has what two rows have
pub record IsMerged (columns : ℕ) (old new : List (List ℕ)) (left right row : List Entry)
    : Type 0 where
  pub grows : Grows old new
  pub full : AreFull new
  pub is_row : IsRow (length new) columns row
  pub has :
      (column s : ℕ) → RowHas new row column s
      ↔ (RowHas old left column s ⊎ RowHas old right column s)

-- the row of this number has the symbol at the column
abbrev pub NumberHas : List (List ℕ) → List (List Entry) → ℕ → ℕ → ℕ → Type 0
NumberHas cells rows n column s = RowHas cells (row_of rows n) column s

-- the third number is that of a row with what the rows of the others have
abbrev pub IsRowUnion : List (List ℕ) → List (List Entry) → ℕ → ℕ → ℕ → Type 0
IsRowUnion cells rows a b both =
    (a < length rows) × (b < length rows) × (both < length rows)
    × ((column s : ℕ) → NumberHas cells rows both column s
    ↔ (NumberHas cells rows a column s ⊎ NumberHas cells rows b column s))

-- the cells are not empty, the rows are over them, the first of them empty, and each union that is
-- remembered is one
pub record IsRoom (columns : ℕ) (cells : List (List ℕ)) (rows : List (List Entry))
    (unions : List RowUnion) : Type 0 where
  pub full : AreFull cells
  pub some_row : 0 < length rows
  pub first : row_of rows 0 ≡ []
  pub each : (n : ℕ) → n < length rows → IsRow (length cells) columns (row_of rows n)
  pub remembered :
      (m : RowUnion) → Contains unions m → IsRowUnion cells rows m.left m.right m.both

-- the room has what it had, and maybe more
pub record RoomGrows (columns : ℕ) (old_cells : List (List ℕ)) (old_rows : List (List Entry))
    (cells : List (List ℕ)) (rows : List (List Entry)) (unions : List RowUnion) : Type 0 where
  pub cells_grow : Grows old_cells cells
  pub rows_grow : Grows old_rows rows
  pub room : IsRoom columns cells rows unions

-- the number is that of a row with the symbols at one column, and none at the others
abbrev pub IsSingleRow : List (List ℕ) → List (List Entry) → ℕ → List ℕ → ℕ → Type 0
IsSingleRow cells rows at symbols n =
    (n < length rows)
    × ((column s : ℕ) → NumberHas cells rows n column s ↔ ((column ≡ at) × Contains symbols s))
