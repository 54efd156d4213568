-- Both have just what derives the span.
use Rattle.valiant.proofs.LawLemmas.{charts_agree}
use Rattle.valiant.proofs.laws.charts_agree.Goals as goal

pub returns : goal.returns
returns c = charts_agree
