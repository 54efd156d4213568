-- The nodes of a tree in preorder are those of no other, and give it back.
use Rattle.std.proofs.Common.{◌≡◌, List, sym, ◌∙◌, ap}
use Rattle.spec_grammar.specs.Trees.{Tree}
use Rattle.tree_nodes.specs.declared.node.TreeNode.{TreeNode}
use Rattle.tree_nodes.specs.TreeNodes.{preorder, AreNodesOfTree}
use Rattle.tree_nodes.specs.Codes.{tree_of, tree_of-preorder}

-- trees of the same nodes are the same
pub one_tree : (t other : Tree) → preorder t ≡ preorder other → t ≡ other
one_tree t other same = sym (tree_of-preorder t) ∙ ap tree_of same ∙ tree_of-preorder other

-- the nodes of some tree are those of the tree that they give
pub tree_has_nodes : (nodes : List TreeNode) → AreNodesOfTree nodes → preorder (tree_of nodes) ≡ nodes
tree_has_nodes nodes are =
    let same : tree_of nodes ≡ are.0 = ap tree_of (sym are.1) ∙ tree_of-preorder are.0 in
    ap preorder same ∙ are.1
