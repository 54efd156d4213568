-- The nodes are those of some tree.
use Rattle.tree_nodes.proofs.NodeLemmas.{tree_has_nodes}
use Rattle.tree_nodes.proofs.tree.Tree.of.Goals as goal

pub invariant_of-result : goal.invariant_of-result
invariant_of-result c = tree_has_nodes c.args.nodes.items c.requires

pub returns : goal.returns
returns c = tree_has_nodes c.args.nodes.items c.requires
