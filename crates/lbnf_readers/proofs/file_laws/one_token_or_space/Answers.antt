-- What stands at the front is what is read there.
use Rattle.lbnf_readers.proofs.ScanLemmas.{one_token, one_space, token_or_space}
use Rattle.lbnf_readers.proofs.file_laws.one_token_or_space.Goals as goal

pub returns-clause-token : goal.returns-clause-token
returns-clause-token c = one_token

pub returns-clause-space : goal.returns-clause-space
returns-clause-space c = one_space

pub returns-clause-either : goal.returns-clause-either
returns-clause-either c = token_or_space
