-- Serves the proofs alone. The nodes that are open while a tree is printed, and what is left of it.
use Rattle.std.specs.Prelude.{◌≡◌, ℕ, List, [], ◌∷◌, ◌++◌, Bool, false, ◌||◌, Option, None}
use Rattle.std.specs.List.{cons_option}
use Rattle.spec_lexing.specs.declared.token.Token.{Token}
use Rattle.spec_lexing.specs.Tokens.{kinds_of}
use Rattle.spec_grammar.specs.declared.rule.Symbol.{Symbol}
use Rattle.spec_grammar.specs.declared.rule.Label.{Label}
use Rattle.spec_grammar.specs.Grammars.{Grammar}
use Rattle.spec_grammar.specs.Trees.{Forest}
use Rattle.spec_grammar.specs.Derivation.{AreParseTrees}
use Rattle.spec_trees.specs.TreeText.{prints_of}
use Rattle.tree_nodes.specs.declared.node.TreeNode.{TreeNode}
use Rattle.tree_nodes.specs.TreeNodes.{tree_count, forest_preorder}
use Rattle.cyk_io.specs.Streams.{GrowsByPrefix}
use Rattle.cyk_io.specs.Gathering.{Passes}
use Rattle.first_tree.specs.declared.open_node.OpenNode.{OpenNode}
use Rattle.first_tree.specs.declared.wanted.Wanted.{Wanted}
use Rattle.first_tree.specs.Wanted.{has_child, plan_past, planned_text, plan_of, closing_of}
use Rattle.first_tree.specs.Wanted.{makes_child}

-- these bytes pass between two moments, of each of which there is what is written, where it is told,
-- and what is gathered
abbrev pub Adds : Option (List ℕ) × List ℕ → Option (List ℕ) × List ℕ → List ℕ → Type 0
Adds old new bytes = Passes old.0 new.0 old.1 bytes new.1

-- a prefix of what is gathered and of these bytes is written between the two
abbrev pub StopsIn : Option (List ℕ) × List ℕ → Option (List ℕ) × List ℕ → List ℕ → Type 0
StopsIn old new bytes = GrowsByPrefix old.0 new.0 (old.1 ++ bytes)

-- the node behind one more of its subtrees, which is a child or is none; so many are left
abbrev pub node_past : Bool → ℕ → OpenNode → OpenNode
node_past is_child left n = record {
  plan = plan_past is_child n.plan;
  closing = n.closing;
  is_child = n.is_child || is_child;
  left = left;
}

-- a node with the label before the first of its subtrees, where this is wanted of it
abbrev pub opened : Label → Wanted → ℕ → OpenNode
opened label wanted left = record {
  plan = plan_of label wanted;
  closing = closing_of label wanted;
  is_child = makes_child label;
  left = left;
}

-- nothing comes behind the root
abbrev pub HasRoot : List OpenNode → Type 0
HasRoot [] = ⊥
HasRoot (n ∷ stack) = n.closing ≡ None

-- the nodes of trees side by side, those of the last first
abbrev pub nodes_left : List Forest → List TreeNode
nodes_left [] = []
nodes_left (ts ∷ tss) = nodes_left tss ++ forest_preorder ts

module _ (g : Grammar) (text : List ℕ) (tokens : List Token) where
  -- the trees are parse trees of some items over some span
  abbrev pub AreTreesIn : Forest → Type 0
  AreTreesIn ts =
      (items : List Symbol) × (i : ℕ) × (j : ℕ) × AreParseTrees g.rules (kinds_of tokens) ts items i j

  -- these are the subtrees that are left of the open nodes
  abbrev pub AreLeft : List OpenNode → List Forest → Type 0
  AreLeft [] [] = Unit {0}
  AreLeft [] (ts ∷ tss) = ⊥
  AreLeft (n ∷ stack) [] = ⊥
  AreLeft (n ∷ stack) (ts ∷ tss) = (tree_count ts ≡ n.left) × AreTreesIn ts × AreLeft stack tss

  -- what is still printed of a node with these subtrees left, and whether it is a child, where this
  -- is so of the subtree before them
  abbrev pub left_of : OpenNode → Forest → List ℕ × Bool → List ℕ × Bool
  left_of n ts above = (
    above.0 ++ (planned_text (plan_past above.1 n.plan) (prints_of g text tokens ts)
        ++ cons_option n.closing []),
    n.is_child || (above.1 || has_child (prints_of g text tokens ts)),
  )

  -- what is still printed of the open nodes, the first of which is the root
  abbrev pub left_from : List ℕ × Bool → List OpenNode → List Forest → List ℕ × Bool
  left_from above [] tss = above
  left_from above (n ∷ stack) [] = above
  left_from above (n ∷ stack) (ts ∷ tss) = left_of n ts (left_from above stack tss)

  -- of the open nodes these nodes are left, and these bytes are still printed
  pub record IsLeft (stack : List OpenNode) (nodes : List TreeNode) (bytes : List ℕ) : Type 0 where
    pub forests : List Forest
    pub are : AreLeft stack forests
    pub same_nodes : nodes ≡ nodes_left forests
    pub same : bytes ≡ (left_from ([], false) stack forests).0
    pub root : HasRoot stack

  -- of these bytes some passed, and the others are left
  abbrev pub Advances : Option (List ℕ) × List ℕ → Option (List ℕ) × List ℕ → List ℕ → List OpenNode
      → List TreeNode → Type 0
  Advances before after bytes stack nodes =
      (front : List ℕ) × (back : List ℕ) × (bytes ≡ front ++ back) × Adds before after front
      × IsLeft stack nodes back
