-- The cells have what the cuts of the entries so far give.
use Rattle.std.proofs.Common.{take}
use Rattle.valiant.specs.Filling.{AddsCuts}
use Rattle.valiant.proofs.filling.with_cuts.Given as goal

abbrev pub invariant-loop-entry : goal.invariant-loop-entry
invariant-loop-entry g l =
    let symbols = g.C.Cell.symbols in
    AddsCuts symbols l.bin (symbols l.left) (take l.entry-index l.behind) (l.fn).cells.items l.cells.items
