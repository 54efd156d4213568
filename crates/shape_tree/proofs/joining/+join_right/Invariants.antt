use Rattle.shape_tree.specs.Shapes.{shape_height}
use Rattle.shape_tree.proofs.joining.+join_right.Given as goal

abbrev pub decreases-join_right : goal.decreases-join_right
decreases-join_right g l = shape_height g.T.Kept.height_of l.left
