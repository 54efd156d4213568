use Rattle.quad_mat.proofs.MatLemmas.{view_columns}
use Rattle.quad_mat.proofs.mat.Mat.cols.Goals as goal

pub returns : goal.returns
returns g c = view_columns _ _ _ _ c.self.view_is
