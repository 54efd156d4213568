use Rattle.binary_form.proofs.GivingLemmas.{none_next, past_next}
use Rattle.binary_form.proofs.product.next_below.Goals as goal

pub returns-in_err-number : goal.returns-in_err-number
returns-in_err-number g c =
    rw c.from_residual.ensures
    (none_next c.args.count c.args.from (g.C.Cell.symbols c.args.cell.now)
    (rw c.in_err-number.was at c.next_from.ensures))

pub returns-else-from-count : goal.returns-else-from-count
returns-else-from-count g c =
    past_next c.args.count c.args.from c.in_ok-number.number (g.C.Cell.symbols c.args.cell.now)
    (rw c.in_ok-number.was at c.next_from.ensures) (rw c.from.ensures at c.if-from-count.false)
