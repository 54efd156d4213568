use Rattle.std.proofs.Common.{◌≤◌, length}
use Rattle.quad_mat.proofs.images.known_image.Given as goal

abbrev pub invariant-loop-place : goal.invariant-loop-place
invariant-loop-place l = l.place ≤ length l.images

abbrev pub decreases-loop-place : goal.decreases-loop-place
decreases-loop-place l = l.place
