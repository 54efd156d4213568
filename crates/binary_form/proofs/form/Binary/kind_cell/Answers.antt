use Rattle.binary_form.proofs.FormLemmas.{kind_closure}
use Rattle.binary_form.proofs.form.Binary.kind_cell.Goals as goal

pub returns-then-k-self : goal.returns-then-k-self
returns-then-k-self g c =
    let parts = rw c.self.view_is at c.self.invariant.0 in
    let counts = rw c.self.view_is at c.self.invariant.1 in
    kind_closure g.C.Cell.symbols c.args.self.now c.self.inside.closures.items parts.closures c.args.k c.index.result.now
    (rw counts.1 at c.if-k-self.true) (rw counts.0 at c.index.ensures)
