use Rattle.std.proofs.Common.{◌≡◌, ◌+◌, ◌<◌, ◌^◌, ◌↔◌, ◌⊎◌, true, IsTrue, drop, map}
use Rattle.std.specs.List.{Contains}
use Rattle.spec_automata.specs.Encoding.{one_of_these}
use Rattle.spec_automata.specs.Positions.{position_count}
use Rattle.spec_automata.specs.Encoding.{these_in_turn}
use Rattle.lbnf_regex.specs.Patterns.{bytes_of_pattern}
use Rattle.lbnf_regex.specs.Steps.{is_nullable, HasLast}
use Rattle.lbnf_regex.proofs.expecting.+can_end.Given as goal

abbrev pub decreases-can_end : goal.decreases-can_end
decreases-can_end l = goal.size-can_end l

-- a match ends in the parts that are left, or it could end before them and they may be empty
abbrev pub invariant-loop-part : goal.invariant-loop-part
invariant-loop-part l = record {
  room : l.start + position_count (these_in_turn (map bytes_of_pattern (drop l.part-index l.part-items))) < 2 ^ 32;
  rest : (HasLast (these_in_turn (map bytes_of_pattern (drop l.part-index l.part-items))) l.start (Contains l.marks)
      ⊎ ((is_nullable (these_in_turn (map bytes_of_pattern (drop l.part-index l.part-items))) ≡ true) × IsTrue l.ends))
      ↔ HasLast (bytes_of_pattern l.pattern) l.first (Contains l.marks);
}

-- a match ends in one of the parts that are left
abbrev pub invariant-loop-part-2 : goal.invariant-loop-part-2
invariant-loop-part-2 l = record {
  room : l.start + position_count (one_of_these (map bytes_of_pattern (drop l.part-index l.part-items))) < 2 ^ 32;
  rest : HasLast (one_of_these (map bytes_of_pattern (drop l.part-index l.part-items))) l.start (Contains l.marks)
      ↔ HasLast (bytes_of_pattern l.pattern) l.first (Contains l.marks);
}
