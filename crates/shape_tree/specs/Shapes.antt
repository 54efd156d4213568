-- What a caller sees of a shape: its items in order, its height, and how many nodes are fresh.
use Rattle.std.specs.Prelude.{ℕ, ◌+◌, max, List, ◌∷◌, ◌++◌}
use Rattle.shape_tree.specs.declared.shape.Shape.{Shape, Kept, Fresh'}
use Rattle.shape_tree.specs.declared.shape.FreshNode.{FreshNode}

module _ {T I : Type 0} where
  -- the items in order: those of the left side, the node's own, and those of the right side
  abbrev pub items_of : (T → List I) → Shape T I → List I
  items_of items (Kept t) = items t
  items_of items (Fresh' p l i r) = items_of items l ++ i ∷ items_of items r

  -- the height: a fresh node is one higher than the higher of its sides
  abbrev pub shape_height : (T → ℕ) → Shape T I → ℕ
  shape_height height_of (Kept t) = height_of t
  shape_height height_of (Fresh' p l i r) =
      max (shape_height height_of l) (shape_height height_of r) + 1

  -- how many nodes are fresh, which are those outside of the kept trees
  abbrev pub fresh_nodes : Shape T I → ℕ
  fresh_nodes (Kept t) = 0
  fresh_nodes (Fresh' p l i r) = fresh_nodes l + fresh_nodes r + 1

  -- the items of a fresh node by itself
  abbrev pub node_items : (T → List I) → FreshNode T I → List I
  node_items items n = items_of items n.left ++ n.item ∷ items_of items n.right

  -- the height of a fresh node by itself
  abbrev pub node_height : (T → ℕ) → FreshNode T I → ℕ
  node_height height_of n = max (shape_height height_of n.left) (shape_height height_of n.right) + 1

  -- how many nodes below a fresh node are fresh, without itself
  abbrev pub fresh_below : FreshNode T I → ℕ
  fresh_below n = fresh_nodes n.left + fresh_nodes n.right
