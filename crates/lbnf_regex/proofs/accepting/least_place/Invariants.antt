use Rattle.std.proofs.Common.{ℕ, ◌<◌, ◌+◌, ◌^◌, ◌↔◌, drop, map}
use Rattle.std.specs.List.{Contains}
use Rattle.spec_automata.specs.Encoding.{one_of_these}
use Rattle.spec_automata.specs.Positions.{position_count}
use Rattle.lbnf_regex.specs.Patterns.{bytes_of_pattern}
use Rattle.lbnf_regex.specs.States.{EndsInPlace}
use Rattle.lbnf_regex.proofs.accepting.least_place.Given as goal

-- no match ends in a kind before this one, and the rest are those from it on
abbrev pub invariant-loop-i : goal.invariant-loop-i
invariant-loop-i l = record {
  room : l.start + position_count (one_of_these (map bytes_of_pattern (drop l.i l.kinds))) < 2 ^ 32;
  before : (k : ℕ) → k < l.i → EndsInPlace (map bytes_of_pattern l.kinds) 0 (Contains l.marks) k → ⊥;
  rest : (k : ℕ) → EndsInPlace (map bytes_of_pattern (drop l.i l.kinds)) l.start (Contains l.marks) k
      ↔ EndsInPlace (map bytes_of_pattern l.kinds) 0 (Contains l.marks) (l.i + k);
}
