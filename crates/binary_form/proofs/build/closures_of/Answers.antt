use Rattle.binary_form.proofs.BuildLemmas.{closures_more}
use Rattle.binary_form.proofs.build.closures_of.Goals as goal

pub loop-number-preserved : goal.loop-number-preserved
loop-number-preserved g c =
    rw c.in_ok-push.ensures.items
    (closures_more g.C.Cell.symbols c.args.grammar.now c.loop-number.number c.loop-number.closures.items
    c.in_ok-closure.closure c.loop-number.invariant c.in_ok-closure.ensures)
