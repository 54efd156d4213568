use Rattle.std.proofs.Common.{length}
use Rattle.lbnf_text.proofs.ParsingLemmas.{AreReadItems}
use Rattle.lbnf_text.proofs.parser.Parser.side.Given as goal

-- the right side is the items so far, and then those of the rest
abbrev pub invariant-items : goal.invariant-items
invariant-items l = AreReadItems l.fn.self l.items l.self

abbrev pub decreases-items : goal.decreases-items
decreases-items l = length l.self
