-- The cell has what the cells so far have.
use Rattle.std.proofs.Common.{map}
use Rattle.quad_mat.specs.Meeting.{IsUnionOfFirst}
use Rattle.quad_mat.proofs.meeting.union_of_all.Given as goal

abbrev pub invariant-loop-cell : goal.invariant-loop-cell
invariant-loop-cell g l =
    let symbols = g.C.Cell.symbols in
    IsUnionOfFirst (map symbols l.cells) l.cell-index (symbols l.all)
