-- Closed charts as data: a leaf has no tokens, and a node has one token between two parts, and the
-- entries of all spans over it.
use Rattle.std.specs.Prelude.{◌≡◌, ℕ, ◌+◌, ◌-◌, max, List, [], ◌∷◌, ◌++◌, Option, length}
use Rattle.std.specs.Prelude.{if◌then◌else◌, nat_le}
use Rattle.spec_grammar.specs.Grammars.{Grammar}
use Rattle.cell_sets.specs.Grids.{Grid, entry, grid_of}
use Rattle.binary_form.specs.BinaryForm.{IsTokenCell}
use Rattle.quad_mat.specs.Matrices.{HasSize, IsSingle}
use Rattle.valiant.specs.Charts.{Shape, leaf as leaf_shape, node as node_shape, ChartValue}
use Rattle.joins.specs.Joins.{Solves}

-- a leaf; or a left part, the kind of a token, None for a stray one, a right part, and the corner,
-- which has a row for each boundary of the left part and a column for each of the right one
pub data ClosedChart : Type 0 where
  leaf : ClosedChart
  node : (left : ClosedChart) → (kind : Option ℕ) → (right : ClosedChart) → (corner : Grid)
      → ClosedChart

-- the kinds of the tokens, in order
abbrev pub kinds_of : ClosedChart → List (Option ℕ)
kinds_of leaf = []
kinds_of (node left kind right corner) = kinds_of left ++ kind ∷ kinds_of right

-- how many boundaries there are: one before each token, and one behind the last
abbrev pub boundaries : ClosedChart → ℕ
boundaries chart = length (kinds_of chart) + 1

-- the height: a node is one higher than the higher of its parts
abbrev pub height_of : ClosedChart → ℕ
height_of leaf = 0
height_of (node left kind right corner) = max (height_of left) (height_of right) + 1

-- how the chart is joined
abbrev pub shape_of : ClosedChart → Shape
shape_of leaf = leaf_shape
shape_of (node left kind right corner) = node_shape (shape_of left) (shape_of right)

-- the entry of the span i..j: a span within the left part is that part's, one that begins behind
-- the token is the right part's, and any other stands in the corner
abbrev pub entry_of : ClosedChart → ℕ → ℕ → List ℕ
entry_of leaf i j = []
entry_of (node left kind right corner) i j =
    if nat_le (boundaries left) i then
    entry_of right (i - boundaries left) (j - boundaries left)
    else if nat_le (boundaries left) j then entry corner i (j - boundaries left)
    else entry_of left i j

-- what is seen of the chart: its kinds, its height, its shape and its entries
abbrev pub seen : ClosedChart → ChartValue
seen chart = record {
  kinds = kinds_of chart;
  height = height_of chart;
  shape = shape_of chart;
  entries = grid_of (length (kinds_of chart)) (boundaries chart) (entry_of chart);
}

-- the chart is a node with this corner, which has a row for each boundary of the left part and a
-- column for each of the right one
abbrev pub IsRootCorner : ClosedChart → Grid → Type 0
IsRootCorner leaf corner = ⊥
IsRootCorner (node left kind right own) corner =
    (corner ≡ own) × HasSize (boundaries left) (boundaries right) corner

-- the corner is that of a node of this grammar: it solves the join of the parts in which C has the
-- cell of the token in its last row and first column, and nothing else
pub record IsCornerOf (g : Grammar) (left : ClosedChart) (kind : Option ℕ) (right : ClosedChart)
    (corner : Grid) : Type 0 where
  pub cell : List ℕ
  pub token : IsTokenCell g kind cell
  pub start : Grid
  pub single :
      IsSingle (boundaries left) (boundaries right) (length (kinds_of left)) 0 cell start
  pub solves : Solves g (entry_of left) start (entry_of right) corner
