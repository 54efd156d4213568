-- The nodes give their tree back.
use Rattle.tree_nodes.proofs.NodeLemmas.{one_tree}
use Rattle.tree_nodes.proofs.laws.nodes_are_of_one_tree.Goals as goal

pub returns : goal.returns
returns c = one_tree
