use Rattle.binary_form.proofs.form.Binary.token_cell.Goals as goal

pub returns-in-Some : goal.returns-in-Some
returns-in-Some g c = rw c.in-Some.is c.kind_cell.ensures
