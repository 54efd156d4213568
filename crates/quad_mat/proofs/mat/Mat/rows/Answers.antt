use Rattle.quad_mat.proofs.MatLemmas.{view_rows}
use Rattle.quad_mat.proofs.mat.Mat.rows.Goals as goal

pub returns : goal.returns
returns g c = view_rows _ _ _ _ c.self.view_is
