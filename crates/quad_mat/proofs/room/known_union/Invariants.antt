use Rattle.std.proofs.Common.{◌≤◌, length}
use Rattle.quad_mat.proofs.room.known_union.Given as goal

abbrev pub invariant-loop-place : goal.invariant-loop-place
invariant-loop-place l = l.place ≤ length l.unions

abbrev pub decreases-loop-place : goal.decreases-loop-place
decreases-loop-place l = l.place
