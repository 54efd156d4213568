-- By the row of the span's first token.
use Rattle.std.proofs.Common.{◌≡◌, ap}
use Rattle.valiant.specs.Charts.{ChartValue}
use Rattle.valiant.proofs.ChartLemmas.{rising_row, row_entry}
use Rattle.valiant.proofs.spans.Spans.cell.Goals as goal

pub cell_at-requires-after_bounds : goal.cell_at-requires-after_bounds
cell_at-requires-after_bounds g c κs within =
    let s = c.self.inside in
    let kinds : s.kinds ≡ c.args.self.now.kinds = ap (λ (chart : ChartValue). chart.kinds) c.self.view_is in
    rw c.as_slice-2.ensures
    (rising_row g.C.Cell.symbols s.kinds s.rows c.self.invariant c.index-as_slice-len.result c.args.i c.args.j
    c.requires.order (rw kinds c.requires.within) (rw (c.as_slice.ensures, c.len.ensures) at c.index-as_slice-len.is))

pub returns : goal.returns
returns g c =
    let s = c.self.inside in
    let kinds : s.kinds ≡ c.args.self.now.kinds = ap (λ (chart : ChartValue). chart.kinds) c.self.view_is in
    let same =
    row_entry g.C.Cell.symbols s.kinds s.rows c.self.invariant c.index-as_slice-len.result c.args.i c.args.j
    c.requires.order (rw kinds c.requires.within) (rw (c.as_slice.ensures, c.len.ensures) at c.index-as_slice-len.is) in
    rw (← c.self.view_is, ← same) (rw c.as_slice-2.ensures at c.cell_at.ensures)
