use Rattle.lbnf_readers.proofs.FaultLemmas.{spelled_or_faulty}
use Rattle.lbnf_readers.proofs.reading_laws.spelled_or_faulty.Goals as goal

pub returns : goal.returns
returns c = spelled_or_faulty
