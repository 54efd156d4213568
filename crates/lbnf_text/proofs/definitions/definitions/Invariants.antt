use Rattle.std.proofs.Common.{length}
use Rattle.lbnf_text.proofs.DefinitionsLemmas.{AreReadDefs}
use Rattle.lbnf_text.proofs.definitions.definitions.Given as goal

-- the definitions are those so far, and then those of the rest
abbrev pub invariant-pieces : goal.invariant-pieces
invariant-pieces l = AreReadDefs l.tokens l.stop l.list.items l.rest

abbrev pub decreases-pieces : goal.decreases-pieces
decreases-pieces l = length l.rest
