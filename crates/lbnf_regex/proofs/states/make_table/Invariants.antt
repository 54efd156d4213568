use Rattle.std.proofs.Common.{map, ◌≤◌, ◌-◌, length}
use Rattle.spec_automata.specs.Encoding.{one_of_these}
use Rattle.lbnf_regex.specs.Patterns.{bytes_of_pattern}
use Rattle.lbnf_regex.specs.States.{AreStates, AreRows}
use Rattle.lbnf_regex.proofs.states.make_table.Given as goal

-- the rows of the states so far are right
abbrev pub invariant-states : goal.invariant-states
invariant-states l = record {
  are : AreStates (one_of_these (map bytes_of_pattern l.kinds)) l.states;
  few : length l.states ≤ l.most;
  within : length l.rows ≤ length l.states;
  rows_are : AreRows (one_of_these (map bytes_of_pattern l.kinds)) l.states (length l.rows) l.rows;
}

abbrev pub decreases-states : goal.decreases-states
decreases-states l = l.most - length l.rows
