use Rattle.spec_lbnf.proofs.SmallLemmas.{defs_within_limits}
use Rattle.spec_lbnf.proofs.laws.defs_within_limits.Goals as goal

pub returns : goal.returns
returns c = defs_within_limits
