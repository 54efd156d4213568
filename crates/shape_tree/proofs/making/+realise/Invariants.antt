use Rattle.shape_tree.specs.Shapes.{fresh_nodes}
use Rattle.shape_tree.proofs.making.+realise.Given as goal

abbrev pub decreases-realise : goal.decreases-realise
decreases-realise g l = fresh_nodes l.shape
