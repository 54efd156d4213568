use Rattle.std.proofs.Common.{◌≤◌, length}
use Rattle.quad_mat.proofs.room.place_of_row.Given as goal

abbrev pub invariant-loop-place : goal.invariant-loop-place
invariant-loop-place l = l.place ≤ length l.rows

abbrev pub decreases-loop-place : goal.decreases-loop-place
decreases-loop-place l = l.place
