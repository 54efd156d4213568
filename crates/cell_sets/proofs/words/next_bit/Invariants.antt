use Rattle.std.proofs.Common.{ℕ, ◌+◌, ◌-◌, ◌*◌, ◌<◌, ◌≤◌, length}
use Rattle.std.specs.List.{Contains}
use Rattle.cell_sets.specs.Words.{symbols_of}
use Rattle.cell_sets.proofs.words.next_bit.Given as goal

abbrev pub invariant-loop-k : goal.invariant-loop-k
invariant-loop-k l =
    (l.from < 64)
    × (l.symbol ≤ 64 * l.k + l.from)
    × ((s : ℕ) → Contains (symbols_of l.words) s → l.symbol ≤ s → 64 * l.k + l.from ≤ s)

abbrev pub decreases-loop-k : goal.decreases-loop-k
decreases-loop-k l = length l.words - l.k
