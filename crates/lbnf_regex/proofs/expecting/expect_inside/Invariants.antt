use Rattle.std.proofs.Common.{take}
use Rattle.std.specs.List.{Contains}
use Rattle.lbnf_regex.specs.Steps.{AddsInside}
use Rattle.lbnf_regex.proofs.expecting.expect_inside.Given as goal

-- what the marks so far give is added
abbrev pub invariant-loop-mark : goal.invariant-loop-mark
invariant-loop-mark l =
    AddsInside l.first l.closing (Contains (take l.mark-index l.marks)) l.fn.into l.into
