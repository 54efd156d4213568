use Rattle.std.proofs.Common.{◌≤◌, ◌-◌, length, []}
use Rattle.number_graph.specs.Graphs.{HasLink}
use Rattle.binary_form.proofs.GivingLemmas.{IsGivenBelow}
use Rattle.binary_form.proofs.left_sides.linked_from.Given as goal

-- the cell has what the numbers so far are linked to
abbrev pub invariant-loop-number : goal.invariant-loop-number
invariant-loop-number g l =
    let symbols = g.C.Cell.symbols in
    (l.from ≤ length l.links)
    × IsGivenBelow (HasLink l.links) (symbols l.cell) [] l.from (symbols l.linked)

abbrev pub decreases-loop-number : goal.decreases-loop-number
decreases-loop-number g l = length l.links - l.from
