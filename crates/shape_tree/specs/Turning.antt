-- What becomes of a side and a node that are put under one root. Serves private contracts alone.
use Rattle.std.specs.Prelude.{◌≡◌, ℕ, ◌+◌, ◌≤◌, max}
use Rattle.shape_tree.specs.Shapes.{shape_height, fresh_nodes, node_height, fresh_below}
use Rattle.shape_tree.specs.Balance.{IsBalancedNode}
use Rattle.shape_tree.specs.declared.shape.Shape.{Shape}
use Rattle.shape_tree.specs.declared.shape.FreshNode.{FreshNode}

module _ {T I : Type 0} where
  -- the turned node is balanced and as high as the node, or one higher; below it are at most two
  -- fresh nodes more than in the side and below the node, and one more where it is higher
  pub record IsTurnedNode (height_of : T → ℕ) (side : Shape T I) (node turned : FreshNode T I)
      : Type 0 where
    pub balanced : IsBalancedNode height_of turned
    pub not_lower : node_height height_of node ≤ node_height height_of turned
    pub not_higher : node_height height_of turned ≤ node_height height_of node + 1
    pub fresh : fresh_below turned + node_height height_of turned
        ≤ fresh_nodes side + fresh_below node + node_height height_of node + 2

  -- the settled node is balanced; where the node is at most one higher than the side, it is one
  -- higher than the higher of the two, with one fresh node more; where the node is two higher,
  -- it was turned
  pub record IsSettledNode (height_of : T → ℕ) (side : Shape T I) (node settled : FreshNode T I)
      : Type 0 where
    pub balanced : IsBalancedNode height_of settled
    pub height : node_height height_of node ≤ shape_height height_of side + 1
        → node_height height_of settled
        ≡ max (shape_height height_of side) (node_height height_of node) + 1
    pub fresh : node_height height_of node ≤ shape_height height_of side + 1
        → fresh_below settled ≡ fresh_nodes side + fresh_below node + 1
    pub turned : node_height height_of node ≡ shape_height height_of side + 2
        → IsTurnedNode height_of side node settled
