use Rattle.binary_form.proofs.FormLemmas.{cell_closure}
use Rattle.binary_form.proofs.form.Binary.up.Goals as goal

pub returns : goal.returns
returns g c =
    let parts = rw c.self.view_is at c.self.invariant.0 in
    cell_closure g.C.Cell.symbols c.args.self.now c.self.inside.closures.items parts.closures c.args.symbol c.index.result.now c.requires c.index.ensures
