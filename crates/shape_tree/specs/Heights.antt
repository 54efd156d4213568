-- How high a tree of so many items may be.
use Rattle.std.specs.Prelude.{ℕ, ◌+◌, ◌*◌, ◌/◌, ◌^◌, ◌<◌, ◌≤◌, max}
use Rattle.shape_tree.specs.Balance.{AreNear}

-- the height is no more than a balanced tree of so many items can have
abbrev pub IsLow : ℕ → ℕ → Type 0
IsLow count height = (height ≤ count) × (2 ^ (height / 2) ≤ count + 1)

-- the height is the least that a binary tree of so many items can have
abbrev pub IsLeastHeight : ℕ → ℕ → Type 0
IsLeastHeight count height = (count < 2 ^ height) × (2 ^ height ≤ 2 * count + 1)

-- a node of two low trees whose heights are near is low
abbrev pub NodesOfLowTreesAreLow : Type 0
NodesOfLowTreesAreLow =
    (h k n m : ℕ) → AreNear h k → IsLow n h → IsLow m k → IsLow (n + 1 + m) (max h k + 1)
