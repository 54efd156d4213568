use Rattle.std.proofs.Common.{◌≡◌, drop, map}
use Rattle.spec_automata.specs.Encoding.{one_of_these}
use Rattle.spec_automata.specs.Encoding.{these_in_turn}
use Rattle.lbnf_regex.specs.Patterns.{bytes_of_pattern}
use Rattle.lbnf_regex.specs.Steps.{is_nullable as can_be_empty}
use Rattle.lbnf_regex.proofs.expecting.+is_nullable.Given as goal

abbrev pub decreases-is_nullable : goal.decreases-is_nullable
decreases-is_nullable l = goal.size-is_nullable l

-- the parts that are left decide
abbrev pub invariant-loop-part : goal.invariant-loop-part
invariant-loop-part l =
    can_be_empty (these_in_turn (map bytes_of_pattern (drop l.part-index l.part-items)))
    ≡ can_be_empty (bytes_of_pattern l.pattern)

abbrev pub invariant-loop-part-2 : goal.invariant-loop-part-2
invariant-loop-part-2 l =
    can_be_empty (one_of_these (map bytes_of_pattern (drop l.part-index l.part-items)))
    ≡ can_be_empty (bytes_of_pattern l.pattern)
