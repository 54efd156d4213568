-- What a shared tree's node is seen as. Serves the type's invariant alone.
use Rattle.std.specs.Prelude.{◌≡◌, ◌+◌, max, [], ◌∷◌, ◌++◌, length, Option, Some, None}
use Rattle.std.specs.declared.sync.Arc.{Arc}
use Rattle.std.specs.declared.alloc.Global.{Global}
use Rattle.shape_tree.specs.Balance.{AreNear}
use Rattle.shape_tree_cases.specs.Trees.{TreeValue, IsLowTree}
use Rattle.shape_tree_cases.specs.declared.shared_tree.SharedTree.TheInside.{Inside}
use Rattle.shape_tree_cases.specs.declared.shared_tree.Node.{Node}

-- the items and the height of a node
abbrev pub node_value : Node → TreeValue
node_value n = record {
  items = n.left.items ++ n.item ∷ n.right.items;
  height = max n.left.height n.right.height + 1;
}

-- the items and the height below a root, which for a leaf are none and 0
abbrev pub value_below : Option (Arc Node Global) → TreeValue
value_below None = record { items = []; height = 0 }
value_below (Some n) = node_value n.value

-- the items and the height of a tree
abbrev pub value_of : Inside → TreeValue
value_of t = value_below t.root

-- the node keeps its length and its height, its sides are near, and it is low
abbrev pub IsWholeNode : Node → Type 0
IsWholeNode n =
    (n.len ≡ length (node_value n).items) × (n.height ≡ (node_value n).height)
    × AreNear n.left.height n.right.height × IsLowTree (node_value n)

-- the root, where there is one, is a whole node
abbrev pub IsWhole : Option (Arc Node Global) → Type 0
IsWhole None = Unit {0}
IsWhole (Some n) = IsWholeNode n.value
