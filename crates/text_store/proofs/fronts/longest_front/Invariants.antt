-- The bytes so far lead to the state, and the best is the longest front of them that is accepted.
use Rattle.std.proofs.Common.{◌≡◌, ◌<◌, length, take, Some}
use Rattle.lbnf_regex.specs.Automata.{walk}
use Rattle.text_store.specs.Lexing.{IsFrontOrNone}
use Rattle.text_store.proofs.fronts.longest_front.Given as goal

abbrev pub invariant-loop-read : goal.invariant-loop-read
invariant-loop-read l = record {
  leads : walk (l.automaton).rows (Some 0) (take l.read l.bytes) ≡ Some l.state;
  within : l.state < length (l.automaton).rows;
  best : IsFrontOrNone l.automaton l.bytes l.read l.best;
}
