use Rattle.std.proofs.Common.{take}
use Rattle.std.specs.List.{Contains}
use Rattle.lbnf_regex.specs.Steps.{HasWithin}
use Rattle.lbnf_regex.proofs.expecting.has_within.Given as goal

-- none of the marks so far is within
abbrev pub invariant-loop-mark : goal.invariant-loop-mark
invariant-loop-mark l = HasWithin l.first l.count (Contains (take l.mark-index l.marks)) → ⊥
