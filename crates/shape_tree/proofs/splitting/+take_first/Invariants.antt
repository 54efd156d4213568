use Rattle.shape_tree.specs.Shapes.{shape_height}
use Rattle.shape_tree.proofs.splitting.+take_first.Given as goal

abbrev pub decreases-take_first : goal.decreases-take_first
decreases-take_first g l = shape_height g.T.Kept.height_of l.whole
