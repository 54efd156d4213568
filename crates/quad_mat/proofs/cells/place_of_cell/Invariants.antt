-- No cell from the place on has the symbols.
use Rattle.std.proofs.Common.{◌≡◌, ◌<◌, ◌≤◌, ℕ, length, map}
use Rattle.cell_sets.specs.Cells.{HaveSame}
use Rattle.quad_mat.specs.Rows.{cell_of}
use Rattle.quad_mat.proofs.cells.place_of_cell.Given as goal

abbrev pub invariant-loop-place : goal.invariant-loop-place
invariant-loop-place g l =
    let symbols = g.C.Cell.symbols in record {
      within : l.place ≤ length l.cells;
      none :
          (n : ℕ) → l.place ≤ n → n < length l.cells
          → HaveSame (symbols l.cell) (cell_of (map symbols l.cells) n) → ⊥;
    }

abbrev pub decreases-loop-place : goal.decreases-loop-place
decreases-loop-place g l = l.place
