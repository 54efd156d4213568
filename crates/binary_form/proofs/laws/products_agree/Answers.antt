-- A number is that of one symbol alone.
use Rattle.binary_form.proofs.ProductLemmas.{products_agree}
use Rattle.binary_form.proofs.laws.products_agree.Goals as goal

pub returns : goal.returns
returns c = products_agree
