use Rattle.binary_form.proofs.form.Binary.left_symbols.Goals as goal

pub returns : goal.returns
returns g c =
    let sides = rw c.self.view_is at c.self.invariant.3 in
    sides.lefts
