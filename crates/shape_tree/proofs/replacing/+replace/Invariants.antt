use Rattle.shape_tree.specs.Shapes.{shape_height}
use Rattle.shape_tree.proofs.replacing.+replace.Given as goal

abbrev pub decreases-replace : goal.decreases-replace
decreases-replace g l = shape_height g.T.Kept.height_of l.whole
