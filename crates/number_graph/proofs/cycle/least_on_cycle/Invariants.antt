use Rattle.std.proofs.Common.{ℕ, ◌<◌}
use Rattle.number_graph.specs.Graphs.{IsOnCycle}
use Rattle.number_graph.proofs.cycle.least_on_cycle.Given as goal

-- none of the numbers so far reaches itself
abbrev pub invariant-loop-number : goal.invariant-loop-number
invariant-loop-number l = (n : ℕ) → n < l.number → IsOnCycle l.links n → ⊥
