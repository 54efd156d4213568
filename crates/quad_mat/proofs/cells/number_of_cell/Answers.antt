-- By the look among the last.
use Rattle.quad_mat.proofs.cells.number_of_cell.Goals as goal

pub returns : goal.returns
returns g c = c.number_from.ensures.number
