-- Serves the proofs alone. A tree as data: its nodes in preorder, which give it back.
use Rattle.std.specs.Prelude.{◌≡◌, ℕ, zero, suc, List, [], ◌∷◌, ◌++◌, Option, Some, None}
use Rattle.std.specs.Coded.{Coded, code_by, coded×, coded_list, coded_option, coded_ℕ}
use Rattle.std.proofs.Common.{refl, ◌∙◌, ap}
use Rattle.spec_grammar.specs.Trees.{Tree, leaf, node, Forest, no_trees, trees}
use Rattle.tree_nodes.specs.declared.node.TreeNode.{TreeNode}
use Rattle.tree_nodes.specs.TreeNodes.{tree_count, preorder, forest_preorder}

-- the first trees, so many of them
abbrev pub front_trees : ℕ → Forest → Forest
front_trees zero ts = no_trees
front_trees (suc n) no_trees = no_trees
front_trees (suc n) (trees t ts) = trees t (front_trees n ts)

-- the trees behind so many
abbrev pub back_trees : ℕ → Forest → Forest
back_trees zero ts = ts
back_trees (suc n) no_trees = no_trees
back_trees (suc n) (trees t ts) = back_trees n ts

-- the trees of a node and of those behind it, which are the trees of these: a leaf stands before
-- them, and a rule's node over the first of them
abbrev pub with_node : Option ℕ → TreeNode → Forest → Forest
with_node None n behind = trees (leaf n.kind n.first n.end) behind
with_node (Some r) n behind =
    trees (node r n.first n.end (front_trees n.children behind)) (back_trees n.children behind)

-- the trees of the nodes, read from the last to the first, before those that are there
abbrev pub forest_of : List TreeNode → Forest → Forest
forest_of [] behind = behind
forest_of (n ∷ nodes) behind = with_node n.rule n (forest_of nodes behind)

-- the first tree
abbrev pub head_tree : Forest → Tree
head_tree no_trees = leaf 0 0 0
head_tree (trees t ts) = t

-- the tree of the nodes
abbrev pub tree_of : List TreeNode → Tree
tree_of nodes = head_tree (forest_of nodes no_trees)

infixr 20 ◌before◌
-- trees before others
abbrev pub ◌before◌ : Forest → Forest → Forest
no_trees before behind = behind
(trees t ts) before behind = trees t (ts before behind)

-- nodes one after another give their trees one after another
forest_of-append :
    (xs ys : List TreeNode) (behind : Forest)
    → forest_of (xs ++ ys) behind ≡ forest_of xs (forest_of ys behind)
forest_of-append [] ys behind = refl
forest_of-append (x ∷ xs) ys behind = ap (with_node x.rule x) (forest_of-append xs ys behind)

-- of trees before others the first are those trees
front_trees-before :
    (ts behind : Forest) → front_trees (tree_count ts) (ts before behind) ≡ ts
front_trees-before no_trees behind = refl
front_trees-before (trees t ts) behind = ap (trees t) (front_trees-before ts behind)

-- and the others the others
back_trees-before :
    (ts behind : Forest) → back_trees (tree_count ts) (ts before behind) ≡ behind
back_trees-before no_trees behind = refl
back_trees-before (trees t ts) behind = back_trees-before ts behind

mutual
  -- the nodes of a tree give it back
  pub forest_of-preorder :
      (t : Tree) (behind : Forest) → forest_of (preorder t) behind ≡ trees t behind
  forest_of-preorder (leaf kind first end) behind = refl
  forest_of-preorder (node r first end subtrees) behind =
      let all = forest_of-forest_preorder subtrees behind in
      let front = front_trees-before subtrees behind in
      rw (all, front, back_trees-before subtrees behind) refl

  -- and so do those of trees side by side
  pub forest_of-forest_preorder :
      (ts behind : Forest) → forest_of (forest_preorder ts) behind ≡ ts before behind
  forest_of-forest_preorder no_trees behind = refl
  forest_of-forest_preorder (trees t ts) behind =
      forest_of-append (preorder t) (forest_preorder ts) behind
      ∙ ap (forest_of (preorder t)) (forest_of-forest_preorder ts behind)
      ∙ forest_of-preorder t (ts before behind)

-- the tree of the nodes of a tree is that tree
pub tree_of-preorder : (t : Tree) → tree_of (preorder t) ≡ t
tree_of-preorder t = ap head_tree (forest_of-preorder t no_trees)

-- a node is stored as its fields
abbrev pub coded_node : Coded TreeNode
coded_node =
    code_by (Option ℕ × (ℕ × (ℕ × (ℕ × ℕ))))
    (coded× (coded_option coded_ℕ) (coded× coded_ℕ (coded× coded_ℕ (coded× coded_ℕ coded_ℕ))))
    (λ n. (n.rule, (n.kind, (n.first, (n.end, n.children)))))
    (λ p. record {
      rule = p.0;
      kind = p.1.0;
      first = p.1.1.0;
      end = p.1.1.1.0;
      children = p.1.1.1.1;
    }) (λ _. refl)

-- a tree is stored as its nodes
abbrev pub coded_tree : Coded Tree
coded_tree = code_by (List TreeNode) (coded_list coded_node) preorder tree_of tree_of-preorder
