use Rattle.std.proofs.Common.{◌≡◌, drop, map}
use Rattle.spec_lexing.specs.Expressions.{expression_of, one_of}
use Rattle.spec_automata.specs.Encoding.{has_character as has_ascii}
use Rattle.lbnf_regex.proofs.encoding.+has_character.Given as goal

abbrev pub decreases-has_character : goal.decreases-has_character
decreases-has_character l = goal.size-has_character l

-- the parts that are left decide
abbrev pub invariant-loop-part : goal.invariant-loop-part
invariant-loop-part l =
    has_ascii (one_of (map expression_of (drop l.part-index l.part-items))) l.byte ≡ has_ascii (expression_of l.expr) l.byte
