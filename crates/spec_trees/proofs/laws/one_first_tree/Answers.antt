-- By both trees, node by node.
use Rattle.spec_trees.proofs.FirstTreeLemmas.{first_tree_is_one, left_tells_apart, lesser_is_strict, greater_is_strict}
use Rattle.spec_trees.proofs.laws.one_first_tree.Goals as goal

pub returns-clause-any : goal.returns-clause-any
returns-clause-any c = λ is_before apart rules kinds s i j t other. first_tree_is_one rules kinds is_before apart t other s i j

pub returns-clause-left : goal.returns-clause-left
returns-clause-left c = left_tells_apart

pub returns-clause-numbers : goal.returns-clause-numbers
returns-clause-numbers c = (lesser_is_strict, greater_is_strict)
