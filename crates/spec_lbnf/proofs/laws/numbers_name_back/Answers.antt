use Rattle.spec_lbnf.proofs.NameLemmas.{numbers_name_back}
use Rattle.spec_lbnf.proofs.laws.numbers_name_back.Goals as goal

pub returns : goal.returns
returns c = numbers_name_back
