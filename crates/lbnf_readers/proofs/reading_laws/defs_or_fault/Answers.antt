use Rattle.lbnf_readers.proofs.FaultLemmas.{defs_or_fault}
use Rattle.lbnf_readers.proofs.reading_laws.defs_or_fault.Goals as goal

pub returns : goal.returns
returns c = defs_or_fault
