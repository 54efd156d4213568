-- Serves the proofs alone. How a product is made: a cell with a cell, a cell with a row, and a row
-- with the rows that its columns name.
use Rattle.std.specs.Prelude.{◌≡◌, ℕ, ◌<◌, ◌≤◌, ◌↔◌, ◌⊎◌, List, [], ◌∷◌, ◌++◌, length, map}
use Rattle.std.specs.Prelude.{slice_get, slice_index, slice_index_or}
use Rattle.std.specs.Prelude.{Option, Some, MatchOption, Contains}
use Rattle.spec_grammar.specs.Grammars.{Grammar}
use Rattle.binary_form.specs.BinaryForm.{IsProductNumber, IsProductOf}
use Rattle.cell_sets.specs.Cells.{HaveSame}
use Rattle.cell_sets.specs.Grids.{Grid, entry}
use Rattle.quad_mat.specs.Matrices.{HasSize}
use Rattle.quad_mat.specs.Loading.{IsBody, IsMatOf}
use Rattle.quad_mat.specs.declared.entries.Entry.{Entry}
use Rattle.quad_mat.specs.declared.room.RowUnion.{RowUnion}
use Rattle.quad_mat.specs.declared.loading.Body.{Body}
use Rattle.quad_mat.specs.declared.images.CellProduct.{CellProduct}
use Rattle.quad_mat.specs.declared.images.RowImage.{RowImage}
use Rattle.quad_mat.specs.declared.images.Making.{Making}
use Rattle.quad_mat.specs.Rows.{cell_of, blank, RowHas, column_at, IsRow, AreFull, Grows, row_of}
use Rattle.quad_mat.specs.Rooms.{NumberHas, IsRoom}

-- the number is that of a cell with these symbols, and None where there are none
pub record NumbersSome (old new : List (List ℕ)) (symbols : List ℕ) (number : Option ℕ)
    : Type 0 where
  pub grows : Grows old new
  pub full : AreFull new
  pub same : MatchOption number
      (symbols ≡ [])
      (λ n. (n < length new) × HaveSame symbols (cell_of new n))

-- the number is that of the product of two cells, and None where they make nothing
abbrev pub IsCellProduct : Grammar → List ℕ → List ℕ → List (List ℕ) → Option ℕ → Type 0
IsCellProduct g left right cells number = MatchOption number
    ((s : ℕ) → IsProductNumber g left right s → ⊥)
    (λ n. (n < length cells) × IsProductOf g left right (cell_of cells n))

-- each product that is remembered is one
abbrev pub AreProducts : Grammar → List (List ℕ) → List (List ℕ) → List (List ℕ)
    → List CellProduct → Type 0
AreProducts g left right cells products =
    (m : CellProduct) → Contains products m
    → IsCellProduct g (cell_of left m.left) (cell_of right m.right) cells m.number

-- the number is that of the product of a left cell and a right one, and is remembered
pub record MakesProduct (g : Grammar) (left right old new : List (List ℕ))
    (products : List CellProduct) (l r : ℕ) (number : Option ℕ) : Type 0 where
  pub grows : Grows old new
  pub full : AreFull new
  pub remembered : AreProducts g left right new products
  pub product : IsCellProduct g (cell_of left l) (cell_of right r) new number

-- the row has the product of two cells at the column behind what it had, if they make something
abbrev pub IsPushed : Grammar → List ℕ → List ℕ → List (List ℕ) → ℕ → List Entry → List Entry
    → Type 0
IsPushed g left right cells column old new =
    ((new ≡ old) × ((s : ℕ) → IsProductNumber g left right s → ⊥))
    ⊎ ((n : ℕ) × (new ≡ old ++ record { column = column; cell = n } ∷ [])
    × (n < length cells) × IsProductOf g left right (cell_of cells n))

-- a row's image goes on with the product of a left cell and an entry's cell
pub record PushesProduct (g : Grammar) (left right old new : List (List ℕ))
    (products : List CellProduct) (l : ℕ) (e : Entry) (image next : List Entry) : Type 0 where
  pub grows : Grows old new
  pub full : AreFull new
  pub remembered : AreProducts g left right new products
  pub pushed : IsPushed g (cell_of left l) (cell_of right e.cell) new e.column image next

-- the cell and the entry's cell make the symbol, at the entry's column
abbrev pub EntryMakes : Grammar → List ℕ → List (List ℕ) → Entry → ℕ → ℕ → Type 0
EntryMakes g cell right e column s =
    (e.column ≡ column) × IsProductNumber g cell (cell_of right e.cell) s

-- the cell and one of the first entries make the symbol at the column
abbrev pub FirstMake : Grammar → List ℕ → List (List ℕ) → List Entry → ℕ → ℕ → ℕ → Type 0
FirstMake g cell right row count column s =
    (k : ℕ) × (k < count) × EntryMakes g cell right (slice_index_or row k blank) column s

-- the cell and the row make the symbol at the column
abbrev pub RowMakes : Grammar → List ℕ → List (List ℕ) → List Entry → ℕ → ℕ → Type 0
RowMakes g cell right row column s = FirstMake g cell right row (length row) column s

-- the row is the image under a left cell of the first entries of another, so many of them
pub record IsImageUpTo (g : Grammar) (columns : ℕ) (left right old new : List (List ℕ))
    (products : List CellProduct) (l : ℕ) (row : List Entry) (count : ℕ) (image : List Entry)
    : Type 0 where
  pub grows : Grows old new
  pub full : AreFull new
  pub remembered : AreProducts g left right new products
  pub is_row : IsRow (length new) columns image
  pub below :
      (k m : ℕ) (d : Entry) → k < length image → count ≤ m → m < length row
      → (slice_index_or image k d).column < column_at row m
  pub has :
      (column s : ℕ)
      → RowHas new image column s ↔ FirstMake g (cell_of left l) right row count column s

-- the number is that of the image of a row under a cell
abbrev pub IsImage : Grammar → List ℕ → List (List ℕ) → List Entry
    → List (List ℕ) → List (List Entry) → ℕ → Type 0
IsImage g cell right row cells rows n =
    (n < length rows)
    × ((column s : ℕ) → NumberHas cells rows n column s ↔ RowMakes g cell right row column s)

-- each image that is remembered is one
abbrev pub AreImages : Grammar → List (List ℕ) → List (List ℕ) → List (List Entry)
    → List (List ℕ) → List (List Entry) → List RowImage → Type 0
AreImages g left right source cells rows images =
    (m : RowImage) → Contains images m
    → IsImage g (cell_of left m.cell) right (row_of source m.row) cells rows m.image

-- the room is one, and the products of cells and the images that are remembered are such
pub record IsMaking (g : Grammar) (left right : List (List ℕ)) (source : List (List Entry))
    (columns : ℕ) (cells : List (List ℕ)) (rows : List (List Entry)) (unions : List RowUnion)
    (products : List CellProduct) (images : List RowImage) : Type 0 where
  pub room : IsRoom columns cells rows unions
  pub products_hold : AreProducts g left right cells products
  pub images_hold : AreImages g left right source cells rows images

-- the same of what a product of two matrices is made in
abbrev pub IsMakingOf : {C : Type 0} → (C → List ℕ) → Grammar → Body C → Body C → Making C → Type 0
IsMakingOf symbols g left right m =
    IsMaking g (map symbols left.cells.items) (map symbols right.cells.items) right.rows
    m.room.columns (map symbols m.room.cells.items) m.room.rows m.room.unions m.products m.images

-- it has what it had, and maybe more
pub record MakesMore {C : Type 0} (symbols : C → List ℕ) (g : Grammar) (left right : Body C)
    (old new : Making C) : Type 0 where
  pub columns : new.room.columns ≡ old.room.columns
  pub cells_grow : Grows (map symbols old.room.cells.items) (map symbols new.room.cells.items)
  pub rows_grow : Grows old.room.rows new.room.rows
  pub making : IsMakingOf symbols g left right new

-- one of the first entries of a row makes the symbol at the column, its cell with the row that its
-- column names
abbrev pub FirstSum : Grammar → List (List ℕ) → List (List ℕ) → List (List Entry) → List ℕ
    → List Entry → ℕ → ℕ → ℕ → Type 0
FirstSum g left right source numbers row count column s =
    (k : ℕ) × (k < count)
    × RowMakes g (cell_of left (slice_index_or row k blank).cell) right
    (row_of source (slice_index numbers (column_at row k))) column s

-- the number is that of the product of a row and the rows that its columns name
abbrev pub IsRowProduct : Grammar → List (List ℕ) → List (List ℕ) → List (List Entry) → List ℕ
    → List Entry → ℕ → List (List ℕ) → List (List Entry) → ℕ → Type 0
IsRowProduct g left right source numbers row count cells rows n =
    (n < length rows)
    × ((column s : ℕ) → NumberHas cells rows n column s
    ↔ FirstSum g left right source numbers row count column s)

-- the same of a row of the left matrix and the right one
abbrev pub IsRowProductOf : {C : Type 0} → (C → List ℕ) → Grammar → Body C → Body C → List Entry
    → ℕ → Making C → ℕ → Type 0
IsRowProductOf symbols g left right row count m n =
    IsRowProduct g (map symbols left.cells.items) (map symbols right.cells.items) right.rows
    right.numbers row count (map symbols m.room.cells.items) m.room.rows n

-- each number that is known of a row of the left matrix is that of its product
pub record AreRowProducts {C : Type 0} (symbols : C → List ℕ) (g : Grammar) (left right : Body C)
    (m : Making C) (known : List (Option ℕ)) : Type 0 where
  pub count : length known ≡ length left.rows
  pub each :
      (n number : ℕ) → slice_get known n ≡ Some (Some number)
      → IsRowProductOf symbols g left right (row_of left.rows n)
      (length (row_of left.rows n)) m number

-- what row i of the left matrix makes with the right one
abbrev pub ProductHas : {C : Type 0} → (C → List ℕ) → Grammar → Body C → Body C → ℕ → ℕ → ℕ → Type 0
ProductHas symbols g left right i column s =
    FirstSum g (map symbols left.cells.items) (map symbols right.cells.items) right.rows
    right.numbers (row_of left.rows (slice_index left.numbers i))
    (length (row_of left.rows (slice_index left.numbers i))) column s

-- the matrix has what the rows of the left matrix make with the right one
pub record IsProductMat {C : Type 0} (symbols : C → List ℕ) (g : Grammar) (left right : Body C)
    (columns : ℕ) (mat : Grid) : Type 0 where
  pub size : HasSize (length left.numbers) columns mat
  pub each :
      (i j s : ℕ) → i < length left.numbers → j < columns
      → Contains (entry mat i j) s ↔ ProductHas symbols g left right i j s

-- no entry of the matrix has symbols
abbrev pub HasNothing : Grid → Type 0
HasNothing mat = (i j : ℕ) → i < mat.rows → j < mat.columns → entry mat i j ≡ []

-- what is kept is that of the matrix
pub record Keeps {C : Type 0} (symbols : C → List ℕ) (kept : Body C) (mat : Grid) : Type 0 where
  pub body : IsBody mat.columns (map symbols kept.cells.items) kept.rows kept.numbers
  pub rows : IsMatOf mat.columns (map symbols kept.cells.items) kept.rows kept.numbers mat
