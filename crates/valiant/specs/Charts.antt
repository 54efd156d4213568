-- What a caller sees of a chart: its kinds, its height and shape, and what derives each span.
use Rattle.std.specs.Prelude.{◌≡◌, ℕ, zero, suc, ◌<◌, ◌≤◌, ◌↔◌, List, [], Option, length, Contains}
use Rattle.spec_grammar.specs.Grammars.{Grammar}
use Rattle.cell_sets.specs.Grids.{Grid, entry, grid_of}
use Rattle.binary_form.specs.Symbols.{BinarySymbol, BinaryDerives}
use Rattle.binary_form.specs.BinaryForm.{IsNumberOf}

-- how a chart is joined: a leaf has no tokens, and a node has one between a left and a right part
pub data Shape : Type 0 where
  leaf : Shape
  node : (left right : Shape) → Shape

-- the shape of so many tokens, each with a leaf on its left and the later tokens on its right
abbrev pub spine : ℕ → Shape
spine zero = leaf
spine (suc n) = node leaf (spine n)

-- a chart: the kinds of its tokens, None for a stray one; how high and in what shape it is joined;
-- and the entry of each span i..j that is not empty, in row i and column j
pub record ChartValue : Type 0 where
  pub kinds : List (Option ℕ)
  pub height : ℕ
  pub shape : Shape
  pub entries : Grid

-- the list has just the numbers of the symbols that derive the span
abbrev pub IsEntryOf : Grammar → List (Option ℕ) → ℕ → ℕ → List ℕ → Type 0
IsEntryOf g kinds i j numbers =
    (n : ℕ) → Contains numbers n
    ↔ ((a : BinarySymbol) × IsNumberOf g a n × BinaryDerives g.rules kinds a i j)

-- the chart stands for these kinds under the grammar: it has them, and the entry of each span that
-- is not empty has just the numbers of the symbols that derive the span
pub record IsChartOf (g : Grammar) (kinds : List (Option ℕ)) (chart : ChartValue) : Type 0 where
  pub same_kinds : chart.kinds ≡ kinds
  pub exact :
      (i j : ℕ) → i < j → j ≤ length kinds → IsEntryOf g kinds i j (entry chart.entries i j)

-- the chart is joined token by token
abbrev pub IsSpine : ChartValue → Type 0
IsSpine chart = (chart.height ≡ length chart.kinds) × (chart.shape ≡ spine (length chart.kinds))

-- the chart of no tokens
abbrev pub leaf_chart : ChartValue
leaf_chart = record {
  kinds = [];
  height = 0;
  shape = leaf;
  entries = grid_of 0 1 (λ _ _. []);
}
