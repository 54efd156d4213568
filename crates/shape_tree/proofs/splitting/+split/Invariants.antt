use Rattle.shape_tree.specs.Shapes.{shape_height}
use Rattle.shape_tree.proofs.splitting.+split.Given as goal

abbrev pub decreases-split : goal.decreases-split
decreases-split g l = shape_height g.T.Kept.height_of l.whole
