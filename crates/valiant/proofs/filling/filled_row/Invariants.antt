-- The row so far has the spans that end before the next, and the cells what its entries give.
use Rattle.std.proofs.Common.{◌+◌}
use Rattle.valiant.specs.Filling.{IsRowUpTo, AreCellsBehind, next_token}
use Rattle.valiant.proofs.filling.filled_row.Given as goal

abbrev pub invariant-loop-last : goal.invariant-loop-last
invariant-loop-last g l =
    let symbols = g.C.Cell.symbols in
    let i = next_token l.kinds l.rows in
    record {
      row : IsRowUpTo symbols l.bin l.kinds i (l.last + 1) l.row;
      cells : AreCellsBehind symbols l.bin l.kinds l.rows i l.row l.last l.cells.items;
    }
