-- Joins: which matrix solves one. One token stands between a left and a right part of a text. Row i
-- is boundary i of the left part, counted from its front, and column j is boundary j of the right
-- part, counted from behind the token; so the entry there is of the span from the one to the other.
use Rattle.std.specs.Prelude.{ℕ, ◌<◌, ◌⊎◌, ◌↔◌, List, Contains}
use Rattle.spec_grammar.specs.Grammars.{Grammar}
use Rattle.cell_sets.specs.Grids.{Grid, entry}
use Rattle.binary_form.specs.BinaryForm.{IsProductNumber}
use Rattle.quad_mat.specs.Matrices.{HasSize}

-- A*X has the symbol in row i and column j: for a row k below i, it is in the product of what A has
-- for the span i..k and the entry of X in row k
abbrev pub IsFromBelow : Grammar → (ℕ → ℕ → List ℕ) → Grid → ℕ → ℕ → ℕ → Type 0
IsFromBelow g a x i j s =
    (k : ℕ) × (i < k) × (k < x.rows) × IsProductNumber g (a i k) (entry x k j) s

-- X*B has the symbol in row i and column j: for a column k before j, it is in the product of the
-- entry of X in column k and what B has for the span k..j
abbrev pub IsFromBefore : Grammar → Grid → (ℕ → ℕ → List ℕ) → ℕ → ℕ → ℕ → Type 0
IsFromBefore g x b i j s = (k : ℕ) × (k < j) × IsProductNumber g (entry x i k) (b k j) s

-- the matrix X solves the join X = C + A*X + X*B, where A has the symbols of the spans of the left
-- part, and B those of the right part
pub record Solves (g : Grammar) (a : ℕ → ℕ → List ℕ) (c : Grid) (b : ℕ → ℕ → List ℕ) (x : Grid)
    : Type 0 where
  pub size : HasSize c.rows c.columns x
  pub each :
      (i j s : ℕ) → i < c.rows → j < c.columns
      → Contains (entry x i j) s
      ↔ (Contains (entry c i j) s ⊎ (IsFromBelow g a x i j s ⊎ IsFromBefore g x b i j s))
