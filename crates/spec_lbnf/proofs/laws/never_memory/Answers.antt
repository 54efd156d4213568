use Rattle.spec_lbnf.proofs.MemoryLemmas.{no_memory_fault, no_memory_unfitness}
use Rattle.spec_lbnf.proofs.laws.never_memory.Goals as goal

pub returns-clause-file : goal.returns-clause-file
returns-clause-file c = no_memory_fault

pub returns-clause-definitions : goal.returns-clause-definitions
returns-clause-definitions c = no_memory_unfitness
