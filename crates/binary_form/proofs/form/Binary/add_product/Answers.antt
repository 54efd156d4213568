use Rattle.std.proofs.lemmas.Result.{IfOk-weaker}
use Rattle.binary_form.specs.BinaryForm.{AddsProductOf}
use Rattle.binary_form.proofs.LongerSuffixesLemmas.{links_go_on, product_added, closures_below}
use Rattle.binary_form.proofs.form.Binary.add_product.Goals as goal

pub product_of-requires-clause-below : goal.product_of-requires-clause-below
product_of-requires-clause-below g c κs within =
    let parts = rw c.self.view_is at c.self.invariant.0 in
    rw (c.as_slice.ensures.value, parts.closures.count)
    (links_go_on c.args.self.now c.self.inside.longer_suffixes parts.longer_suffixes)

pub product_of-requires-clause-closed : goal.product_of-requires-clause-closed
product_of-requires-clause-closed g c κs within =
    let parts = rw c.self.view_is at c.self.invariant.0 in
    rw c.as_slice.ensures.value
    (closures_below g.C.Cell.symbols c.args.self.now c.self.inside.closures.items c.self.inside.longer_suffixes
    parts.closures parts.longer_suffixes)

pub returns : goal.returns
returns g c =
    let parts = rw c.self.view_is at c.self.invariant.0 in
    let symbols = g.C.Cell.symbols in
    let left = symbols c.args.left.now in
    let right = symbols c.args.right.now in
    IfOk-weaker c.product_of.result _
    (λ cell. AddsProductOf c.args.self.now left right (symbols c.args.cell) (symbols cell))
    (λ cell. product_added symbols c.args.self.now c.self.inside.closures.items c.self.inside.longer_suffixes
    parts.closures parts.longer_suffixes left right (symbols c.args.cell) (symbols cell))
    (rw c.as_slice.ensures.value at c.product_of.ensures)
