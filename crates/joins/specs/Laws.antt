-- What the functions of src/laws.rt say of joins and of closed charts.
use Rattle.std.specs.Prelude.{ℕ, ◌<◌, List, Option, ◌∷◌, ◌++◌}
use Rattle.spec_grammar.specs.Grammars.{Grammar, HasOwnSymbols}
use Rattle.cell_sets.specs.Cells.{HaveSame}
use Rattle.cell_sets.specs.Grids.{Grid, entry}
use Rattle.binary_form.specs.BinaryForm.{IsProductOf}
use Rattle.valiant.specs.Charts.{IsChartOf}
use Rattle.joins.specs.Joins.{Solves}
use Rattle.joins.specs.ClosedCharts.{ClosedChart, node, kinds_of, seen, IsCornerOf}

-- two matrices that solve one join have the same symbols in each entry
abbrev pub OneSolution : Type 0
OneSolution =
    (g : Grammar) (a b : ℕ → ℕ → List ℕ) (c x y : Grid)
    → Solves g a c b x → Solves g a c b y → (i j : ℕ) → i < c.rows → j < c.columns
    → HaveSame (entry x i j) (entry y i j)

-- where each two cells have a product, some matrix solves the join
abbrev pub SomeSolution : Type 0
SomeSolution =
    (g : Grammar)
    → ((left right : List ℕ) → (cell : List ℕ) × IsProductOf g left right cell)
    → (a b : ℕ → ℕ → List ℕ) (c : Grid) → (x : Grid) × Solves g a c b x

-- where the parts stand for their kinds and the corner solves their join, the node stands for the
-- kinds of the left part, the token's and those of the right part
abbrev pub NodesStandForTheirKinds : Type 0
NodesStandForTheirKinds =
    (g : Grammar) (left_kinds right_kinds : List (Option ℕ)) (left right : ClosedChart)
    (kind : Option ℕ) (corner : Grid)
    → HasOwnSymbols g → IsChartOf g left_kinds (seen left) → IsChartOf g right_kinds (seen right)
    → IsCornerOf g left kind right corner
    → IsChartOf g (left_kinds ++ kind ∷ right_kinds) (seen (node left kind right corner))

-- where a node stands for its kinds, its parts stand for theirs
abbrev pub PartsStandForTheirKinds : Type 0
PartsStandForTheirKinds =
    (g : Grammar) (left : ClosedChart) (kind : Option ℕ) (right : ClosedChart) (corner : Grid)
    → IsChartOf g (kinds_of (node left kind right corner)) (seen (node left kind right corner))
    → IsChartOf g (kinds_of left) (seen left) × IsChartOf g (kinds_of right) (seen right)
