-- What a caller sees of a tree that is kept as its nodes: the nodes of a parse tree in preorder.
use Rattle.std.specs.Prelude.{◌≡◌, ℕ, suc, List, [], ◌∷◌, ◌++◌, Some, None}
use Rattle.spec_grammar.specs.Trees.{Tree, leaf, node, Forest, no_trees, trees}
use Rattle.tree_nodes.specs.declared.node.TreeNode.{TreeNode}

-- how many trees stand side by side
abbrev pub tree_count : Forest → ℕ
tree_count no_trees = 0
tree_count (trees t ts) = suc (tree_count ts)

-- the node of a leaf
abbrev pub leaf_node : ℕ → ℕ → ℕ → TreeNode
leaf_node kind first end = record {
  rule = None;
  kind = kind;
  first = first;
  end = end;
  children = 0;
}

-- the node of a rule, with so many subtrees
abbrev pub rule_node : ℕ → ℕ → ℕ → ℕ → TreeNode
rule_node r first end children = record {
  rule = Some r;
  kind = 0;
  first = first;
  end = end;
  children = children;
}

abbrev mutual
  -- the nodes of the tree: its own before those of its subtrees, from left to right
  pub preorder : Tree → List TreeNode
  preorder (leaf kind first end) = leaf_node kind first end ∷ []
  preorder (node r first end subtrees) =
      rule_node r first end (tree_count subtrees) ∷ forest_preorder subtrees

  -- the nodes of the trees, from left to right
  pub forest_preorder : Forest → List TreeNode
  forest_preorder no_trees = []
  forest_preorder (trees t ts) = preorder t ++ forest_preorder ts

-- the nodes are those of a tree in preorder
abbrev pub AreNodesOfTree : List TreeNode → Type 0
AreNodesOfTree nodes = (t : Tree) × (preorder t ≡ nodes)
