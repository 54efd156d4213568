use Rattle.number_graph.specs.HeightSteps.{AreHeightsUpTo}
use Rattle.number_graph.proofs.chains.heights_along.Given as goal

-- the heights of the numbers so far are told
abbrev pub invariant-loop-number : goal.invariant-loop-number
invariant-loop-number l = AreHeightsUpTo l.links l.order l.number-index (l.heights).items
