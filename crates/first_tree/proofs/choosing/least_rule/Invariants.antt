-- No rule so far gives the span.
use Rattle.std.proofs.Common.{ℕ, ◌<◌}
use Rattle.first_tree.specs.Searching.{GivesSpan}
use Rattle.first_tree.proofs.choosing.least_rule.Given as goal

abbrev pub invariant-loop-number : goal.invariant-loop-number
invariant-loop-number g l =
    (r : ℕ) → r < l.number → GivesSpan (l.bin).rules (l.chart).kinds l.category l.first l.end r → ⊥
