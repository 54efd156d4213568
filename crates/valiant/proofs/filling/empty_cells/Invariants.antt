-- The cells so far have no symbols.
use Rattle.std.proofs.Common.{◌≡◌, length}
use Rattle.valiant.specs.Filling.{AreEmpty}
use Rattle.valiant.proofs.filling.empty_cells.Given as goal

abbrev pub invariant-loop : goal.invariant-loop
invariant-loop g l = record {
  count : length l.cells.items ≡ l.counter;
  empty : AreEmpty g.C.Cell.symbols l.cells.items;
}
