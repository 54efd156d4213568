use Rattle.std.proofs.Common.{ℕ, ◌↔◌, take}
use Rattle.std.specs.List.{Contains}
use Rattle.number_graph.proofs.links.cell_of.Given as goal

-- the list has the numbers so far
abbrev pub invariant-loop-number : goal.invariant-loop-number
invariant-loop-number l =
    (n : ℕ) → Contains l.cell n ↔ Contains (take l.number-index l.numbers) n
