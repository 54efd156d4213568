-- What is added to no symbols is the product.
use Rattle.std.proofs.lemmas.Result.{IfOk-weaker}
use Rattle.binary_form.specs.BinaryForm.{IsProductOf}
use Rattle.binary_form.proofs.LongerSuffixesLemmas.{product_from_none}
use Rattle.binary_form.proofs.form.Binary.product.Goals as goal

pub returns : goal.returns
returns g c =
    let symbols = g.C.Cell.symbols in
    let left = symbols c.args.left.now in
    let right = symbols c.args.right.now in
    IfOk-weaker c.add_product.result _ (λ cell. IsProductOf c.args.self.now left right (symbols cell))
    (λ cell. product_from_none c.args.self.now left right (symbols c.empty.result) (symbols cell) c.empty.ensures.items)
    c.add_product.ensures
