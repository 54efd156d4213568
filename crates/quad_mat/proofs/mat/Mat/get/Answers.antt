-- By the row that is kept.
use Rattle.std.proofs.Common.{arith}
use Rattle.quad_mat.proofs.MatLemmas.{kept_source, kept_entry, none_entry, view_rows}
use Rattle.quad_mat.proofs.mat.Mat.get.Goals as goal

pub cell_in-requires-clause-source : goal.cell_in-requires-clause-source
cell_in-requires-clause-source g c κs within =
    let s = c.self.inside in
    rw c.deref.ensures
    (kept_source g.C.Cell.symbols s.rows s.columns c.in-Some.body (rw c.in-Some.is at c.self.invariant))

pub cell_in-requires-clause-row : goal.cell_in-requires-clause-row
cell_in-requires-clause-row g c κs within =
    let s = c.self.inside in
    let kept = rw c.in-Some.is at c.self.invariant in
    rw c.deref.ensures (omega (arith, kept.0, c.requires.row, view_rows _ _ _ _ c.self.view_is))

pub returns-in-Some-clause-cell : goal.returns-in-Some-clause-cell
returns-in-Some-clause-cell g c =
    let s = c.self.inside in
    let same =
    kept_entry g.C.Cell.symbols s.rows s.columns c.in-Some.body (rw c.in-Some.is at c.self.invariant) c.args.self.now
    c.args.i c.args.j (rw c.in-Some.is at c.self.view_is) c.requires.row c.requires.column in
    rw (c.deref.ensures, same) at c.cell_in.ensures.cell

pub returns-in-None-clause-cell : goal.returns-in-None-clause-cell
returns-in-None-clause-cell g c =
    let s = c.self.inside in
    none_entry g.C.Cell.symbols s.rows s.columns c.args.self.now c.args.i c.args.j (rw c.in-None.is at c.self.view_is)
    c.requires.row c.requires.column
