use Rattle.std.proofs.Common.{ℕ, ◌<◌, ◌≤◌, slice_index_or}
use Rattle.number_graph.specs.Graphs.{IsSet}
use Rattle.number_graph.proofs.derivation.first_clear.Given as goal

-- those so far have their flags
abbrev pub invariant-loop-place : goal.invariant-loop-place
invariant-loop-place l =
    (k : ℕ) → l.from ≤ k → k < l.place → IsSet l.flags (slice_index_or l.numbers k 0)
