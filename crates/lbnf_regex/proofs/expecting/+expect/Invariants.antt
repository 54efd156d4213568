use Rattle.std.proofs.Common.{◌+◌, ◌<◌, ◌^◌, List, IsTrue, drop, map}
use Rattle.std.specs.List.{Contains}
use Rattle.spec_automata.specs.Encoding.{one_of_these}
use Rattle.spec_automata.specs.Positions.{position_count}
use Rattle.lbnf_regex.specs.declared.next_byte.NextByte.{NextByte}
use Rattle.spec_automata.specs.Encoding.{these_in_turn}
use Rattle.lbnf_regex.specs.Patterns.{bytes_of_pattern}
use Rattle.lbnf_regex.specs.Steps.{AddsExpected}
use Rattle.lbnf_regex.proofs.expecting.+expect.Given as goal

-- what the parts that are left expect completes what all of them expect
abbrev pub invariant-expect_in_turn-loop-part : goal.invariant-expect_in_turn-loop-part
invariant-expect_in_turn-loop-part l = record {
  room : l.start + position_count (these_in_turn (map bytes_of_pattern (drop l.part-index l.parts))) < 2 ^ 32;
  rest : (new : List NextByte) →
      AddsExpected (these_in_turn (map bytes_of_pattern (drop l.part-index l.parts))) l.start (IsTrue l.enters)
      (Contains l.marks) l.into new →
      AddsExpected (these_in_turn (map bytes_of_pattern l.parts)) l.first (IsTrue l.entered) (Contains l.marks) l.fn.into new;
}

abbrev pub invariant-expect_one_of-loop-part : goal.invariant-expect_one_of-loop-part
invariant-expect_one_of-loop-part l = record {
  room : l.start + position_count (one_of_these (map bytes_of_pattern (drop l.part-index l.parts))) < 2 ^ 32;
  rest : (new : List NextByte) →
      AddsExpected (one_of_these (map bytes_of_pattern (drop l.part-index l.parts))) l.start (IsTrue l.entered)
      (Contains l.marks) l.into new →
      AddsExpected (one_of_these (map bytes_of_pattern l.parts)) l.first (IsTrue l.entered) (Contains l.marks) l.fn.into new;
}
