-- By the size of the scalar.
use Rattle.spec_text.proofs.ScalarsLemmas.{has_length}
use Rattle.spec_text.proofs.laws.scalars_have_their_length.Goals as goal

pub returns : goal.returns
returns c = has_length
