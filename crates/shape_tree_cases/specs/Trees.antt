-- What a caller sees of a shared tree: its items and its height.
use Rattle.std.specs.Prelude.{◌≡◌, ℕ, List, ◌∷◌, ◌++◌, length, Option}
use Rattle.shape_tree.specs.Heights.{IsLow}

-- the items in order, and the height
pub record TreeValue : Type 0 where
  pub items : List (Option ℕ)
  pub height : ℕ

-- the tree is no higher than a balanced tree of its items can be
abbrev pub IsLowTree : TreeValue → Type 0
IsLowTree t = IsLow (length t.items) t.height

-- the tree has the items of the left tree, the item and those of the right tree, and both are low
abbrev pub HasLowParts : TreeValue → TreeValue → Option ℕ → TreeValue → Type 0
HasLowParts whole left item right =
    (whole.items ≡ left.items ++ item ∷ right.items) × IsLowTree left × IsLowTree right
