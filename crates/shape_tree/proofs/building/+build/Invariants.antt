use Rattle.std.proofs.Common.{length}
use Rattle.shape_tree.proofs.building.+build.Given as goal

abbrev pub decreases-build : goal.decreases-build
decreases-build g l = length l.items.now
