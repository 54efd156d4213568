use Rattle.shape_tree.proofs.HeightLemmas.{low_node}
use Rattle.shape_tree.proofs.laws.nodes_of_low_trees_are_low.Goals as goal

pub returns : goal.returns
returns c = low_node
