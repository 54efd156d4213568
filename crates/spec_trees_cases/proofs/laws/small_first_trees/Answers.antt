-- Each case by its tree, and by what its parts can't derive.
use Rattle.spec_trees_cases.proofs.FirstTreeCases.{small_first_trees}
use Rattle.spec_trees_cases.proofs.laws.small_first_trees.Goals as goal

pub returns : goal.returns
returns c = small_first_trees
