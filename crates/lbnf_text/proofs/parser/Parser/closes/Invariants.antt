use Rattle.std.proofs.Common.{length, ◌≤◌}
use Rattle.lbnf_text.proofs.ParsingLemmas.{AreClosed}
use Rattle.lbnf_text.proofs.parser.Parser.closes.Given as goal

-- the brackets that are left to close come next
abbrev pub invariant-loop-turn : goal.invariant-loop-turn
invariant-loop-turn l = record {
  closed : AreClosed l.count l._turn l.fn.self l.self;
  within : length l.self ≤ length l.fn.self;
}
