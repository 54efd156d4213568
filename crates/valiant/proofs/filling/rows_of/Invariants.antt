-- The rows so far are those of the last tokens, as many as the loop has done, and the cells are empty.
use Rattle.std.proofs.Common.{◌≡◌, length}
use Rattle.valiant.specs.Filling.{AreLastRows, AreEmptyCells}
use Rattle.valiant.proofs.filling.rows_of.Given as goal

abbrev pub invariant-loop : goal.invariant-loop
invariant-loop g l = record {
  count : length l.rows ≡ l.counter;
  last : AreLastRows g.C.Cell.symbols l.bin l.kinds l.rows;
  empty : AreEmptyCells g.C.Cell.symbols (length l.kinds) l.empty.items;
}
