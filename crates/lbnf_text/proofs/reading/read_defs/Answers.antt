-- What a file spells is within the limits, and proper.
use Rattle.spec_lbnf.proofs.DifferenceLemmas.{proper_defs}
use Rattle.spec_lbnf.proofs.SmallLemmas.{defs_within_limits}
use Rattle.lbnf_text.proofs.reading.read_defs.Goals as goal

pub of-requires-clause-within : goal.of-requires-clause-within
of-requires-clause-within c = defs_within_limits c.args.bytes.now c.in-Ok.list.items c.in-Ok.ensures

pub of-requires-clause-proper : goal.of-requires-clause-proper
of-requires-clause-proper c = proper_defs c.args.bytes.now c.in-Ok.list.items c.in-Ok.ensures
