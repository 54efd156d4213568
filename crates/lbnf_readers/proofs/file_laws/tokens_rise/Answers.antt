-- Each token lies behind the one before it.
use Rattle.lbnf_readers.proofs.ScanLemmas.{rises}
use Rattle.lbnf_readers.proofs.file_laws.tokens_rise.Goals as goal

pub returns : goal.returns
returns c = rises
