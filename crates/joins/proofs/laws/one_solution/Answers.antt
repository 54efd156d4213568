-- By the number of rows below an entry and of columns before it.
use Rattle.joins.proofs.MatrixLemmas.{one_solution}
use Rattle.joins.proofs.laws.one_solution.Goals as goal

pub returns : goal.returns
returns c = one_solution
