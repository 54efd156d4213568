-- Balanced trees and shapes: the heights of two sides differ by at most one.
use Rattle.std.specs.Prelude.{◌≡◌, ℕ, ◌+◌, ◌≤◌, max, List, [], ◌∷◌, ◌++◌}
use Rattle.shape_tree.specs.Shapes.{shape_height}
use Rattle.shape_tree.specs.declared.shape.Shape.{Shape, Kept, Fresh'}
use Rattle.shape_tree.specs.declared.shape.FreshNode.{FreshNode}

-- the two heights differ by at most one
abbrev pub AreNear : ℕ → ℕ → Type 0
AreNear h k = (h ≤ k + 1) × (k ≤ h + 1)

module _ {T I : Type 0} where
  -- the kept tree is a leaf: it has no item, and its height is 0
  abbrev pub IsLeaf : (T → List I) → (T → ℕ) → T → Type 0
  IsLeaf items height_of t = (items t ≡ []) × (height_of t ≡ 0)

  -- the kept tree is a node of the left tree, the item and the right tree
  abbrev pub IsNodeOf : (T → List I) → (T → ℕ) → T → T → I → T → Type 0
  IsNodeOf items height_of whole left item right =
      (items whole ≡ items left ++ item ∷ items right)
      × (height_of whole ≡ max (height_of left) (height_of right) + 1)
      × AreNear (height_of left) (height_of right)

  -- the sides of each fresh node have heights that differ by at most one
  abbrev pub IsBalanced : (T → ℕ) → Shape T I → Type 0
  IsBalanced height_of (Kept t) = Unit {0}
  IsBalanced height_of (Fresh' p l i r) =
      IsBalanced height_of l × IsBalanced height_of r
      × AreNear (shape_height height_of l) (shape_height height_of r)

  -- the same of a fresh node by itself
  abbrev pub IsBalancedNode : (T → ℕ) → FreshNode T I → Type 0
  IsBalancedNode height_of n =
      IsBalanced height_of n.left × IsBalanced height_of n.right
      × AreNear (shape_height height_of n.left) (shape_height height_of n.right)
