use Rattle.lbnf_readers.proofs.FaultLemmas.{one_list_of_defs, one_file_of_defs}
use Rattle.lbnf_readers.proofs.reading_laws.one_list_of_defs.Goals as goal

pub returns-clause-tokens : goal.returns-clause-tokens
returns-clause-tokens c = one_list_of_defs

pub returns-clause-file : goal.returns-clause-file
returns-clause-file c = one_file_of_defs
