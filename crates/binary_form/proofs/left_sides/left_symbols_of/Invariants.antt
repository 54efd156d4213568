use Rattle.binary_form.proofs.LeftSideLemmas.{HasLinkedBelow}
use Rattle.binary_form.proofs.left_sides.left_symbols_of.Given as goal

-- the cell has those of the numbers so far that are linked
abbrev pub invariant-loop-number : goal.invariant-loop-number
invariant-loop-number g l = HasLinkedBelow l.longer_suffixes l.number (g.C.Cell.symbols l.cell)
