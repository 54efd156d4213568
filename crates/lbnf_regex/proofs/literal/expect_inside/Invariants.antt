use Rattle.std.proofs.Common.{take}
use Rattle.std.specs.List.{Contains}
use Rattle.lbnf_regex.specs.Steps.{AddsBehind}
use Rattle.lbnf_regex.proofs.literal.expect_inside.Given as goal

-- what the marks so far give is added
abbrev pub invariant-loop-mark : goal.invariant-loop-mark
invariant-loop-mark l =
    AddsBehind l.first l.bytes (Contains (take l.mark-index l.marks)) l.fn.into l.into
