-- The flags so far are those of the cells so far.
use Rattle.std.proofs.Common.{map}
use Rattle.cell_sets.specs.Cells.{Meet}
use Rattle.quad_mat.specs.Meeting.{AreFlagsOfFirst}
use Rattle.quad_mat.proofs.meeting.which_have.Given as goal

abbrev pub invariant-loop-cell : goal.invariant-loop-cell
invariant-loop-cell g l =
    let symbols = g.C.Cell.symbols in
    AreFlagsOfFirst (λ cell. Meet cell (symbols l.symbols)) (map symbols l.cells) l.cell-index (l.flags).items
