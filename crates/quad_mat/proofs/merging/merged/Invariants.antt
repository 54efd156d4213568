-- The row so far has what both rows have up to their places.
use Rattle.std.proofs.Common.{◌+◌, ◌-◌, length, map}
use Rattle.quad_mat.specs.Rooms.{IsMergedUpTo}
use Rattle.quad_mat.proofs.merging.merged.Given as goal

abbrev pub invariant-loop-i : goal.invariant-loop-i
invariant-loop-i g l =
    IsMergedUpTo l.columns (map g.C.Cell.symbols (l.fn).cells.items) (map g.C.Cell.symbols l.cells.items)
    l.left l.right l.i l.j l.row

abbrev pub decreases-loop-i : goal.decreases-loop-i
decreases-loop-i g l = (length l.left - l.i) + (length l.right - l.j)
