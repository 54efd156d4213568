use Rattle.std.proofs.Common.{◌<◌, length}
use Rattle.lexer_bench.proofs.matching.longest.Given as goal

-- the state is one of the automaton's
abbrev pub invariant-loop-i : goal.invariant-loop-i
invariant-loop-i l = l.state < length (l.automaton).rows
