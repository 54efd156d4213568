-- By the side of the next column.
use Rattle.std.proofs.Common.{map}
use Rattle.quad_mat.proofs.MergingLemmas.{step_left, step_right}
use Rattle.quad_mat.proofs.merging.next_step.Goals as goal

pub returns-in-Left : goal.returns-in-Left
returns-in-Left g c =
    step_left (map g.C.Cell.symbols c.args.cells.now.items) c.args.left.now c.args.right.now c.args.i c.args.j
    c.requires.full c.requires.left_cells c.in-Left.ensures

pub returns-in-Right : goal.returns-in-Right
returns-in-Right g c =
    step_right (map g.C.Cell.symbols c.args.cells.now.items) c.args.left.now c.args.right.now c.args.i c.args.j
    c.requires.full c.requires.right_cells c.in-Right.ensures
