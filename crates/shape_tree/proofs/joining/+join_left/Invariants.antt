use Rattle.shape_tree.specs.Shapes.{shape_height}
use Rattle.shape_tree.proofs.joining.+join_left.Given as goal

abbrev pub decreases-join_left : goal.decreases-join_left
decreases-join_left g l = shape_height g.T.Kept.height_of l.right
