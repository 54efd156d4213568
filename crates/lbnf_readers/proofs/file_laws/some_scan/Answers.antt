-- Tokens are read one by one.
use Rattle.lbnf_readers.specs.Scanning.{scan_of}
use Rattle.lbnf_readers.proofs.ScanLemmas.{scanned}
use Rattle.lbnf_readers.proofs.file_laws.some_scan.Goals as goal

pub returns : goal.returns
returns c bytes = ((scan_of bytes).0, (scan_of bytes).1, scanned bytes)
