use Rattle.std.proofs.Common.{◌≡◌, ◌+◌, drop, map}
use Rattle.spec_automata.specs.Encoding.{one_of_these}
use Rattle.spec_automata.specs.Positions.{position_count}
use Rattle.spec_automata.specs.Encoding.{these_in_turn}
use Rattle.lbnf_regex.specs.Patterns.{bytes_of_pattern}
use Rattle.lbnf_regex.proofs.expecting.+size.Given as goal

abbrev pub decreases-size : goal.decreases-size
decreases-size l = goal.size-size l

-- the positions so far and those of the parts that are left are all
abbrev pub invariant-loop-part : goal.invariant-loop-part
invariant-loop-part l =
    l.total + position_count (these_in_turn (map bytes_of_pattern (drop l.part-index l.part-items)))
    ≡ position_count (bytes_of_pattern l.pattern)

abbrev pub invariant-loop-part-2 : goal.invariant-loop-part-2
invariant-loop-part-2 l =
    l.total + position_count (one_of_these (map bytes_of_pattern (drop l.part-index l.part-items)))
    ≡ position_count (bytes_of_pattern l.pattern)
