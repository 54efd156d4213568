-- By the union of the two cells.
use Rattle.std.proofs.Common.{map}
use Rattle.quad_mat.proofs.MergingLemmas.{step_both}
use Rattle.quad_mat.proofs.merging.step_of_both.Goals as goal

pub returns : goal.returns
returns g c =
    step_both (map g.C.Cell.symbols c.args.cells.now.items) c.args.left.now c.args.right.now c.args.i c.args.j
    c.requires.full (map g.C.Cell.symbols c.number_of_both.new.cells.items) c.in_ok-cell.cell c.requires.both
    c.in_ok-cell.ensures
