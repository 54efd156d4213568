use Rattle.spec_lbnf.proofs.DifferenceLemmas.{proper_defs}
use Rattle.spec_lbnf.proofs.laws.proper_defs.Goals as goal

pub returns : goal.returns
returns c = proper_defs
