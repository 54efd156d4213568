-- What a caller sees of matrices: grids of cells, and what the calls make of their entries.
use Rattle.std.specs.Prelude.{◌≡◌, ℕ, ◌+◌, ◌<◌, ◌↔◌, List, Contains}
use Rattle.spec_grammar.specs.Grammars.{Grammar}
use Rattle.binary_form.specs.BinaryForm.{IsProductNumber}
use Rattle.cell_sets.specs.Cells.{IsUnion, HaveSame}
use Rattle.cell_sets.specs.Grids.{Grid, entry}

-- the matrix has so many rows and columns
abbrev pub HasSize : ℕ → ℕ → Grid → Type 0
HasSize rows columns mat = (mat.rows ≡ rows) × (mat.columns ≡ columns)

-- the matrix has the symbols at one place, and none at the others
pub record IsSingle (rows columns i j : ℕ) (symbols : List ℕ) (mat : Grid) : Type 0 where
  pub size : HasSize rows columns mat
  pub each :
      (m n s : ℕ) → m < rows → n < columns
      → Contains (entry mat m n) s ↔ ((m ≡ i) × (n ≡ j) × Contains symbols s)

-- each entry of the third matrix has what either has at its place
pub record IsUnionOf (a b both : Grid) : Type 0 where
  pub size : HasSize a.rows a.columns both
  pub each :
      (i j : ℕ) → i < a.rows → j < a.columns
      → IsUnion (entry a i j) (entry b i j) (entry both i j)

-- the part has the entries of the whole from this row and this column on
abbrev pub IsPart : Grid → Grid → ℕ → ℕ → Type 0
IsPart part whole row column =
    (i j : ℕ) → i < part.rows → j < part.columns
    → HaveSame (entry part i j) (entry whole (row + i) (column + j))

-- four parts are the whole, cut before this row and before this column
pub record IsCut (whole : Grid) (row column : ℕ) (a11 a12 a21 a22 : Grid) : Type 0 where
  pub rows : whole.rows ≡ row + a21.rows
  pub columns : whole.columns ≡ column + a12.columns
  pub size11 : HasSize row column a11
  pub size12 : HasSize row a12.columns a12
  pub size21 : HasSize a21.rows column a21
  pub size22 : HasSize a21.rows a12.columns a22
  pub part11 : IsPart a11 whole 0 0
  pub part12 : IsPart a12 whole 0 column
  pub part21 : IsPart a21 whole row 0
  pub part22 : IsPart a22 whole row column

-- the symbol is in the product at row i and column j: for some k, the entry in row i and column k
-- of the first matrix and the entry in row k and column j of the second have it in their product
abbrev pub IsInProduct : Grammar → Grid → Grid → ℕ → ℕ → ℕ → Type 0
IsInProduct g a b i j s =
    (k : ℕ) × (k < a.columns) × IsProductNumber g (entry a i k) (entry b k j) s

-- the third matrix is the product of two: each entry is the union, over all k, of the products of
-- cells
pub record IsMatProduct (g : Grammar) (a b product : Grid) : Type 0 where
  pub size : HasSize a.rows b.columns product
  pub each :
      (i j s : ℕ) → i < a.rows → j < b.columns
      → Contains (entry product i j) s ↔ IsInProduct g a b i j s
