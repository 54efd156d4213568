use Rattle.spec_lbnf.proofs.EntryLemmas.{own_entry}
use Rattle.spec_lbnf.proofs.laws.own_entry.Goals as goal

pub returns : goal.returns
returns c = own_entry
