use Rattle.binary_form.specs.Forms.{AreClosuresUpTo}
use Rattle.binary_form.proofs.build.closures_of.Given as goal

-- the numbers so far have their closures
abbrev pub invariant-loop-number : goal.invariant-loop-number
invariant-loop-number g l =
    AreClosuresUpTo g.C.Cell.symbols l.grammar l.number (l.closures).items
