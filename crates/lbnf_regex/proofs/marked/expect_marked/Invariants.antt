use Rattle.std.proofs.Common.{map, take}
use Rattle.std.specs.List.{Contains}
use Rattle.lbnf_regex.specs.Owners.{AddsOwned, HasAllOf}
use Rattle.lbnf_regex.specs.Patterns.{bytes_of_pattern}
use Rattle.lbnf_regex.proofs.marked.expect_marked.Given as goal

-- what the kinds of the marks so far expect is added
abbrev pub invariant-loop-mark : goal.invariant-loop-mark
invariant-loop-mark l = record {
  adds : AddsOwned (map bytes_of_pattern l.kinds) (Contains l.marks) (take l.mark-index l.marks) l.fn.into l.into;
  has : HasAllOf (map bytes_of_pattern l.kinds) (Contains l.marks) l.last l.into;
}
