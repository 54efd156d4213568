use Rattle.std.proofs.Common.{take}
use Rattle.number_graph.specs.HeightSteps.{IsHeightAbove}
use Rattle.number_graph.proofs.chains.height_above.Given as goal

-- the height above the targets so far
abbrev pub invariant-loop-target : goal.invariant-loop-target
invariant-loop-target l = IsHeightAbove (take l.target-index l.targets) l.heights l.height
