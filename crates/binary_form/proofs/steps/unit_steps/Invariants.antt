use Rattle.std.proofs.Common.{length}
use Rattle.binary_form.specs.RowLinks.{IsRowStep, AreLinksOfRows}
use Rattle.binary_form.proofs.steps.unit_steps.Given as goal

-- the links are the unit steps that the rows so far give
abbrev pub invariant-loop-number : goal.invariant-loop-number
invariant-loop-number l =
    AreLinksOfRows (IsRowStep l.nullable) l.rows l.first l.number (length l.nullable) l.links
