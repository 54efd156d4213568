-- Each entry is made of those below and before it.
use Rattle.joins.proofs.SolutionLemmas.{some_solution}
use Rattle.joins.proofs.laws.some_solution.Goals as goal

pub returns : goal.returns
returns c = some_solution
