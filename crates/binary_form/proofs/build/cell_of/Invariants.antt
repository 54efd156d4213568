use Rattle.std.proofs.Common.{take}
use Rattle.binary_form.proofs.BuildLemmas.{HasJust}
use Rattle.binary_form.proofs.build.cell_of.Given as goal

-- the cell has just the numbers so far
abbrev pub invariant-loop-number : goal.invariant-loop-number
invariant-loop-number g l = HasJust (take l.number-index l.numbers) (g.C.Cell.symbols l.cell)
