-- The grid whose entries are empty.
use Rattle.cell_sets.proofs.GridLemmas.{entry-grid_of}
use Rattle.quad_mat.proofs.MatLemmas.{grid_size}
use Rattle.quad_mat.proofs.mat.Mat.zero.Goals as goal

pub returns-clause-size : goal.returns-clause-size
returns-clause-size g c = grid_size _ _ _

pub returns-clause-each : goal.returns-clause-each
returns-clause-each g c i j in_rows in_columns = entry-grid_of _ _ _ i j in_rows in_columns
