use Rattle.std.proofs.Common.{◌≡◌, ℕ, ◌<◌, None, length, map, slice_index_or}
use Rattle.std.specs.List.{Contains}
use Rattle.lbnf_regex.specs.Patterns.{bytes_of_pattern}
use Rattle.lbnf_regex.specs.States.{IsLeastEnding, state_at}
use Rattle.lbnf_regex.proofs.accepting.places.Given as goal

-- the places of the states so far
abbrev pub invariant-loop-i : goal.invariant-loop-i
invariant-loop-i l = record {
  size : length l.places ≡ l.i;
  least : (k : ℕ) → k < l.i →
      IsLeastEnding (map bytes_of_pattern l.kinds) (Contains (state_at l.states k)) (slice_index_or l.places k None);
}
