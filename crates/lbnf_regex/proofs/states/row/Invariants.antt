use Rattle.std.proofs.Common.{map, ◌≤◌, length}
use Rattle.spec_automata.specs.Encoding.{one_of_these}
use Rattle.lbnf_regex.specs.Patterns.{bytes_of_pattern}
use Rattle.lbnf_regex.specs.States.{state_at, AddsStates, AreStates, IsStateRow}
use Rattle.lbnf_regex.proofs.states.row.Given as goal

-- states were added, and the entries of the bytes so far are right
abbrev pub invariant-loop-byte : goal.invariant-loop-byte
invariant-loop-byte l = record {
  grows : AddsStates l.fn.states l.states;
  are : AreStates (one_of_these (map bytes_of_pattern l.kinds)) l.states;
  few : length l.states ≤ l.most;
  row : IsStateRow (one_of_these (map bytes_of_pattern l.kinds)) l.states (state_at l.fn.states l.i) l.byte l.row;
}
