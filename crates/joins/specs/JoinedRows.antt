-- Serves the proofs alone. Joins row by row, over any way in which symbols stand in rows and
-- columns: a relation says which symbol stands in which row and column.
use Rattle.std.specs.Prelude.{ℕ, ◌+◌, ◌<◌, ◌⊎◌, ◌↔◌}
use Rattle.spec_grammar.specs.Grammars.{Grammar}
use Rattle.binary_form.specs.BinaryForm.{MakesNumber}

-- a symbol of the left set and one of the right set make the symbol
abbrev pub Make : Grammar → (ℕ → Type 0) → (ℕ → Type 0) → ℕ → Type 0
Make g Left Right s = (l : ℕ) × (m : ℕ) × Left l × Right m × MakesNumber g l m s

module _ (g : Grammar) where
  -- what the join X = C + A*X + X*B of so many rows asks for in row i and column j
  abbrev pub JoinHas : (rows : ℕ) → (A C B X : ℕ → ℕ → ℕ → Type 0) → ℕ → ℕ → ℕ → Type 0
  JoinHas rows A C B X i j s =
      C i j s
      ⊎ (((k : ℕ) × (i < k) × (k < rows) × Make g (A i k) (X k j) s)
      ⊎ ((k : ℕ) × (k < j) × Make g (X i k) (B k j) s))

  -- so many rows and columns solve the join
  abbrev pub AreJoined : (rows columns : ℕ) → (A C B X : ℕ → ℕ → ℕ → Type 0) → Type 0
  AreJoined rows columns A C B X =
      (i j s : ℕ) → i < rows → j < columns → X i j s ↔ JoinHas rows A C B X i j s

  -- row i of C, and what row i of the corner A12 makes with the rows of the lower part
  abbrev pub WithCorner : (C Corner X : ℕ → ℕ → ℕ → Type 0) → (upper lower : ℕ)
      → ℕ → ℕ → ℕ → Type 0
  WithCorner C Corner X upper lower i j s =
      C i j s ⊎ ((k : ℕ) × (k < lower) × Make g (Corner i k) (X (upper + k) j) s)

  -- the row has what it began with, and the products of its entries in the columns before the limit
  -- with the spans of B that begin there
  abbrev pub IsClosedUpTo : (B : ℕ → ℕ → ℕ → Type 0) → (columns limit : ℕ)
      → (Start Row : ℕ → ℕ → Type 0) → Type 0
  IsClosedUpTo B columns limit Start Row =
      (j s : ℕ) → j < columns
      → Row j s ↔ (Start j s ⊎ ((k : ℕ) × (k < limit) × (k < j) × Make g (Row k) (B k j) s))

  -- the new row has the old one, and what its entry in column k makes with B
  abbrev pub AddsColumn : (B : ℕ → ℕ → ℕ → Type 0) → (columns k : ℕ)
      → (Old New : ℕ → ℕ → Type 0) → Type 0
  AddsColumn B columns k Old New =
      (j s : ℕ) → j < columns → New j s ↔ (Old j s ⊎ ((k < j) × Make g (Old k) (B k j) s))

-- no symbol stands in so many rows and columns
abbrev pub HaveNothing : (rows columns : ℕ) → (X : ℕ → ℕ → ℕ → Type 0) → Type 0
HaveNothing rows columns X = (i j s : ℕ) → i < rows → j < columns → X i j s → ⊥
