-- Parse trees. A tree keeps its span, and a rule's node the rule.
use Rattle.std.specs.Prelude.{ℕ}

mutual
  -- a leaf is one token of a kind, and a node is a rule over the subtrees of its items
  pub data Tree : Type 0 where
    leaf : (kind first end : ℕ) → Tree
    node : (rule first end : ℕ) → (subtrees : Forest) → Tree

  -- trees side by side
  pub data Forest : Type 0 where
    no_trees : Forest
    trees : (first : Tree) → (others : Forest) → Forest
