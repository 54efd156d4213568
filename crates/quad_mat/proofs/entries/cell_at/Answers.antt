-- What stands at the column's place is found, and nothing where it has no place.
use Rattle.std.proofs.Common.{arith}
use Rattle.std.proofs.lemmas.List.{length-map}
use Rattle.quad_mat.specs.Rows.{blank}
use Rattle.quad_mat.proofs.EntryLemmas.{found_none, cell_found, cell_some}
use Rattle.quad_mat.proofs.entries.cell_at.Goals as goal

pub bounds-cells-row : goal.bounds-cells-row
bounds-cells-row g c =
    omega (arith, length-map c.args.cells.now g.C.Cell.symbols, c.requires.known c.in-Ok.at blank c.in-Ok.ensures.0)

pub returns-in-Ok-clause-cell : goal.returns-in-Ok-clause-cell
returns-in-Ok-clause-cell g c =
    let at = c.in-Ok.ensures in
    cell_found g.C.Cell.symbols c.args.cells.now c.args.row.now c.args.column c.in-Ok.at c.index-cells-row.result c.requires.rising
    c.requires.known at.0 at.1 c.index-cells-row.is

pub returns-in-Err-clause-cell : goal.returns-in-Err-clause-cell
returns-in-Err-clause-cell g c = found_none _ c.args.row.now c.args.column c.in-Err.ensures

pub returns-in-Ok-clause-some : goal.returns-in-Ok-clause-some
returns-in-Ok-clause-some g c =
    cell_some g.C.Cell.symbols c.args.cells.now _ c.index-cells-row.result c.requires.full
    (c.requires.known c.in-Ok.at blank c.in-Ok.ensures.0) c.index-cells-row.is
