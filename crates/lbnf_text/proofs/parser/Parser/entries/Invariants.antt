use Rattle.std.proofs.Common.{length}
use Rattle.lbnf_text.proofs.ParsingLemmas.{AreReadEntries}
use Rattle.lbnf_text.proofs.parser.Parser.entries.Given as goal

-- the categories are those so far, and then those of the rest
abbrev pub invariant-entries : goal.invariant-entries
invariant-entries l = AreReadEntries l.fn.self l.cats l.self

abbrev pub decreases-entries : goal.decreases-entries
decreases-entries l = length l.self
