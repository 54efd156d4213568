-- No place so far is a cut.
use Rattle.std.proofs.Common.{ℕ, ◌<◌, drop}
use Rattle.first_tree.specs.Searching.{IsCut}
use Rattle.first_tree.proofs.choosing.least_cut.Given as goal

abbrev pub invariant-loop-place : goal.invariant-loop-place
invariant-loop-place g l =
    (k : ℕ) → k < l.place
    → IsCut (l.bin).rules (l.chart).kinds (drop (l.rest).place (l.rule).items) (l.rest).first k (l.rest).end → ⊥
