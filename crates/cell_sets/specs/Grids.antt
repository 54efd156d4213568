-- Grids: what a caller sees of a table of cells, row by row.
use Rattle.std.specs.Prelude.{◌≡◌, ℕ, ◌<◌, List, [], map, slice_index_or}
use Rattle.std.specs.List.{range_with_len}

-- so many rows, each with so many columns, and a list of numbers in each row and column
pub record Grid : Type 0 where
  pub rows : ℕ
  pub columns : ℕ
  pub table : List (List (List ℕ))

-- the list in row i and column j
abbrev pub entry : Grid → ℕ → ℕ → List ℕ
entry grid i j = slice_index_or (slice_index_or grid.table i []) j []

-- the lists of one row, as the function gives them
abbrev pub row_of : ℕ → (ℕ → List ℕ) → List (List ℕ)
row_of columns f = map f (range_with_len 0 columns)

-- the grid of so many rows and columns whose entries are the function's values
unfoldable pub grid_of : ℕ → ℕ → (ℕ → ℕ → List ℕ) → Grid
grid_of rows columns f = record {
  rows = rows;
  columns = columns;
  table = map (λ i. row_of columns (f i)) (range_with_len 0 rows);
}

-- an entry of a grid made from a function is the function's value
abbrev pub EntriesAreValues : Type 0
EntriesAreValues =
    (rows columns : ℕ) (f : ℕ → ℕ → List ℕ) (i j : ℕ)
    → i < rows → j < columns → entry (grid_of rows columns f) i j ≡ f i j
