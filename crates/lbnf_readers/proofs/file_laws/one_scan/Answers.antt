-- Of two lists of tokens each token is the same.
use Rattle.lbnf_readers.proofs.ScanLemmas.{one_scan}
use Rattle.lbnf_readers.proofs.file_laws.one_scan.Goals as goal

pub returns : goal.returns
returns c = one_scan
