use Rattle.spec_lbnf.proofs.NameLemmas.{distinct_names}
use Rattle.spec_lbnf.proofs.laws.distinct_names.Goals as goal

pub returns : goal.returns
returns c = distinct_names
