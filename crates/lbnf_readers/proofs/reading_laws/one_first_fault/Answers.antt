use Rattle.lbnf_readers.proofs.FaultLemmas.{one_first_fault}
use Rattle.lbnf_readers.proofs.reading_laws.one_first_fault.Goals as goal

pub returns : goal.returns
returns c = one_first_fault
