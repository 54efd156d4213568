use Rattle.spec_lbnf.proofs.DefSizeLemmas.{two_bytes_for_each}
use Rattle.spec_lbnf.proofs.laws.two_bytes_for_each.Goals as goal

pub returns : goal.returns
returns c = two_bytes_for_each
