-- By the tree, node by node.
use Rattle.spec_trees.proofs.FirstTreeLemmas.{first_is_parse_tree}
use Rattle.spec_trees.proofs.laws.a_first_tree_is_a_parse_tree.Goals as goal

pub returns : goal.returns
returns c = λ is_before rules kinds. first_is_parse_tree rules kinds is_before
