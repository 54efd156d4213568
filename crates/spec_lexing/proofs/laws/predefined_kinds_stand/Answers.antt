-- Form by form.
use Rattle.spec_lexing.proofs.ExpressionLemmas.{predefined_stand}
use Rattle.spec_lexing.proofs.laws.predefined_kinds_stand.Goals as goal

pub returns : goal.returns
returns c = predefined_stand
