-- What the function of src/laws.rt says of nodes in preorder.
use Rattle.std.specs.Prelude.{◌≡◌}
use Rattle.spec_grammar.specs.Trees.{Tree}
use Rattle.tree_nodes.specs.TreeNodes.{preorder}

-- trees of the same nodes are the same
abbrev pub NodesAreOfOneTree : Type 0
NodesAreOfOneTree = (t other : Tree) → preorder t ≡ preorder other → t ≡ other
