-- The row so far has what the window has of the entries so far.
use Rattle.std.proofs.Common.{map}
use Rattle.quad_mat.specs.Loading.{IsMovedUpTo}
use Rattle.quad_mat.proofs.loading.moved_row.Given as goal

abbrev pub invariant-loop-entry : goal.invariant-loop-entry
invariant-loop-entry g l =
    let symbols = g.C.Cell.symbols in
    IsMovedUpTo l.window l.columns (map symbols l.source) (map symbols (l.fn).cells.items)
    (map symbols l.cells.items) l.known l.row l.entry-index l.made
