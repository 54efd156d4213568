-- What a shape is when its root is taken apart. Serves private contracts alone.
use Rattle.std.specs.Prelude.{◌≡◌, ℕ, ◌≤◌, List, []}
use Rattle.shape_tree.specs.Shapes.{items_of, shape_height, fresh_nodes}
use Rattle.shape_tree.specs.Shapes.{node_items, node_height, fresh_below}
use Rattle.shape_tree.specs.Balance.{IsLeaf, IsBalancedNode}
use Rattle.shape_tree.specs.Parts.{IsPartOfOne, AreNodeParts}
use Rattle.shape_tree.specs.declared.shape.Shape.{Shape}
use Rattle.shape_tree.specs.declared.opening.Opened.{Opened}
use Rattle.shape_tree.specs.declared.opening.Opened.TheVariants.{Leaf, Node}

module _ {T I : Type 0} where
  -- the shape opens to a leaf, which has no item, or to a balanced node with all of its items
  abbrev pub OpensTo : (T → List I) → (T → ℕ) → Shape T I → Opened T I → Type 0
  OpensTo items height_of s (Leaf t) =
      (items_of items s ≡ []) × (shape_height height_of s ≡ 0) × IsLeaf items height_of t
  OpensTo items height_of s (Node n) =
      (items_of items s ≡ node_items items n) × (shape_height height_of s ≡ node_height height_of n)
      × IsBalancedNode height_of n × (fresh_below n ≤ fresh_nodes s)

  -- each kept tree of what the shape opens to is a part of one of those given
  abbrev pub AreOpenedParts : (T → T → I → T → Type 0) → List T → Opened T I → Type 0
  AreOpenedParts has_parts given (Leaf t) = IsPartOfOne has_parts given t
  AreOpenedParts has_parts given (Node n) = AreNodeParts has_parts given n
