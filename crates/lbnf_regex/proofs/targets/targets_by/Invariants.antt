use Rattle.std.proofs.Common.{take}
use Rattle.lbnf_regex.specs.Sets.{AreTargets, LeadsFrom}
use Rattle.lbnf_regex.proofs.targets.targets_by.Given as goal

-- what the ways so far lead to
abbrev pub invariant-loop-next : goal.invariant-loop-next
invariant-loop-next l = AreTargets (LeadsFrom (take l.next-index l.expected)) l.targets
