-- Serves the proofs alone. Loading: rows of a matrix come into a room, each once, and of each row
-- the columns of a window.
use Rattle.std.specs.Prelude.{◌≡◌, ℕ, ◌+◌, ◌-◌, ◌<◌, ◌≤◌, ◌↔◌, ◌⊎◌, List, [], ◌∷◌, ◌++◌, length}
use Rattle.std.specs.Prelude.{slice_get, slice_index}
use Rattle.std.specs.Prelude.{slice_index_or, Option, Some, Contains}
use Rattle.cell_sets.specs.Cells.{HaveSame}
use Rattle.cell_sets.specs.Grids.{Grid, entry}
use Rattle.quad_mat.specs.declared.entries.Entry.{Entry}
use Rattle.quad_mat.specs.declared.loading.Window.{Window}
use Rattle.quad_mat.specs.Rows.{cell_of, FirstHas, RowHas, HasRisingColumns}
use Rattle.quad_mat.specs.Rows.{column_at, AreCellsBelow, IsRow, AreFull, Grows}
use Rattle.quad_mat.specs.Rows.{AreDifferent, StayDifferent}
use Rattle.quad_mat.specs.Rooms.{NumberHas}
use Rattle.quad_mat.specs.Rows.{row_of}
use Rattle.quad_mat.specs.Matrices.{HasSize}

-- the window has the first column, and moves it to the second
abbrev pub IsMovedTo : Window → ℕ → ℕ → Type 0
IsMovedTo w from to =
    (w.first ≤ from) × (from < w.first + w.width) × (to + w.first ≡ from + w.to)

-- one of the first entries has the symbol at the column that the window moves to this one
abbrev pub MovedHas : Window → List (List ℕ) → List Entry → ℕ → ℕ → ℕ → Type 0
MovedHas w cells row count column s =
    (from : ℕ) × IsMovedTo w from column × FirstHas cells row count from s

-- the matrix has the symbol in the row, at the column that the window moves to this one
abbrev pub PartHas : Window → Grid → ℕ → ℕ → ℕ → Type 0
PartHas w mat i column s = (from : ℕ) × IsMovedTo w from column × Contains (entry mat i from) s

-- each number that is known of a cell is that of one with the same symbols
pub record AreCopied (source cells : List (List ℕ)) (known : List (Option ℕ)) : Type 0 where
  pub count : length known ≡ length source
  pub each :
      (n m : ℕ) → slice_get known n ≡ Some (Some m)
      → (m < length cells) × HaveSame (cell_of source n) (cell_of cells m)

-- the number is that of a cell with the same symbols, and is known; no cell comes twice
pub record CopiesCell (source old new : List (List ℕ)) (known : List (Option ℕ)) (n m : ℕ)
    : Type 0 where
  pub grows : Grows old new
  pub full : AreFull new
  pub different : StayDifferent old new
  pub copied : AreCopied source new known
  pub within : m < length new
  pub same : HaveSame (cell_of source n) (cell_of new m)

-- the entry is not in the window, and all stays as it is; or the row has it at the column to which
-- it moves, with the number of a cell with the same symbols
abbrev pub PushesMoved : Window → List (List ℕ) → List (List ℕ) → List (List ℕ)
    → List (Option ℕ) → List (Option ℕ) → Entry → List Entry → List Entry → Type 0
PushesMoved w source old new known after e made row =
    (((to : ℕ) → IsMovedTo w e.column to → ⊥) × (new ≡ old) × (after ≡ known) × (row ≡ made))
    ⊎ ((to : ℕ) × (cell : ℕ) × IsMovedTo w e.column to × CopiesCell source old new after e.cell cell
    × (row ≡ made ++ record { column = to; cell = cell } ∷ []))

-- the row has what the window has of the first entries of another
pub record IsMovedUpTo (w : Window) (columns : ℕ) (source old new : List (List ℕ))
    (known : List (Option ℕ)) (row : List Entry) (count : ℕ) (made : List Entry) : Type 0 where
  pub grows : Grows old new
  pub full : AreFull new
  pub different : StayDifferent old new
  pub copied : AreCopied source new known
  pub is_row : IsRow (length new) columns made
  pub below :
      (k m : ℕ) (d : Entry) → k < length made → count ≤ m → m < length row
      → (slice_index_or made k d).column + w.first < column_at row m + w.to
  pub has :
      (column s : ℕ) → RowHas new made column s ↔ MovedHas w source row count column s

-- the number is that of a row with what the window has of another
abbrev pub IsMovedRow : Window → List (List ℕ) → List Entry → List (List ℕ) → List (List Entry) → ℕ
    → Type 0
IsMovedRow w source row cells rows m =
    (m < length rows)
    × ((column s : ℕ) → NumberHas cells rows m column s
    ↔ MovedHas w source row (length row) column s)

-- each number that is known of a row is that of its part in the window
pub record AreLoaded (w : Window) (source : List (List ℕ)) (source_rows : List (List Entry))
    (cells : List (List ℕ)) (rows : List (List Entry)) (known : List (Option ℕ)) : Type 0 where
  pub count : length known ≡ length source_rows
  pub each :
      (n m : ℕ) → slice_get known n ≡ Some (Some m)
      → IsMovedRow w source (row_of source_rows n) cells rows m

-- what is known of cells and of rows
pub record IsKnown (w : Window) (source : List (List ℕ)) (source_rows : List (List Entry))
    (cells : List (List ℕ)) (rows : List (List Entry)) (known_cells known_rows : List (Option ℕ))
    : Type 0 where
  pub copied : AreCopied source cells known_cells
  pub loaded : AreLoaded w source source_rows cells rows known_rows

-- rows over cells that are not empty, with columns that rise
pub record IsSource (cells : List (List ℕ)) (rows : List (List Entry)) : Type 0 where
  pub full : AreFull cells
  pub rising : (n : ℕ) → n < length rows → HasRisingColumns (row_of rows n)
  pub known : (n : ℕ) → n < length rows → AreCellsBelow (length cells) (row_of rows n)

-- each number is below the count
abbrev pub AreBelow : ℕ → List ℕ → Type 0
AreBelow count numbers = (i : ℕ) → i < length numbers → slice_index numbers i < count

-- the matrix keeps different cells that are not empty, rows over them, and for each row the number
-- of one
pub record IsBody (columns : ℕ) (cells : List (List ℕ)) (rows : List (List Entry))
    (numbers : List ℕ) : Type 0 where
  pub full : AreFull cells
  pub different : AreDifferent cells
  pub each : (n : ℕ) → n < length rows → IsRow (length cells) columns (row_of rows n)
  pub within : AreBelow (length rows) numbers

-- the numbers are those of rows with what is given for each place
abbrev pub AreNumbersOf : (ℕ → ℕ → ℕ → Type 0) → List (List ℕ) → List (List Entry) → List ℕ → Type 0
AreNumbersOf Gives cells rows numbers =
    (i : ℕ) → i < length numbers
    → (slice_index numbers i < length rows)
    × ((column s : ℕ) → NumberHas cells rows (slice_index numbers i) column s ↔ Gives i column s)

-- what row i of the matrix has of the window, from the row on
abbrev pub MovedNumberHas : Window → List (List ℕ) → List (List Entry) → List ℕ → ℕ
    → ℕ → ℕ → ℕ → Type 0
MovedNumberHas w source source_rows numbers first i column s =
    MovedHas w source (row_of source_rows (slice_index numbers (first + i)))
    (length (row_of source_rows (slice_index numbers (first + i)))) column s

-- the first numbers, so many of them, are those of rows with what the window has of the rows that
-- were named there, and the others are as they were
pub record Renumbers (w : Window) (source : List (List ℕ)) (source_rows : List (List Entry))
    (named : List ℕ) (cells : List (List ℕ)) (rows : List (List Entry)) (numbers : List ℕ)
    (count : ℕ) : Type 0 where
  pub same : length numbers ≡ length named
  pub rest : (j : ℕ) → count ≤ j → slice_index numbers j ≡ slice_index named j
  pub changed :
      (j : ℕ) → j < count
      → IsMovedRow w source (row_of source_rows (slice_index named j)) cells rows
      (slice_index numbers j)

-- the matrix has for each row what its number's row has
pub record IsMatOf (columns : ℕ) (cells : List (List ℕ)) (rows : List (List Entry))
    (numbers : List ℕ) (mat : Grid) : Type 0 where
  pub size : HasSize (length numbers) columns mat
  pub each :
      (i j s : ℕ) → i < length numbers → j < columns
      → Contains (entry mat i j) s ↔ NumberHas cells rows (slice_index numbers i) j s

-- one matrix has the symbol in row i, or the other does, from this column on
abbrev pub BothHave : Grid → Grid → ℕ → ℕ → ℕ → ℕ → Type 0
BothHave left right to i column s =
    ((column < left.columns) × Contains (entry left i column) s)
    ⊎ ((to ≤ column) × (column < to + right.columns) × Contains (entry right i (column - to)) s)
