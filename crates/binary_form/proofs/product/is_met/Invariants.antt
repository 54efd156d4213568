use Rattle.std.proofs.Common.{◌≤◌, ◌<◌, ◌-◌, ℕ, length}
use Rattle.std.specs.List.{Contains}
use Rattle.binary_form.specs.Products.{IsItemMet}
use Rattle.binary_form.proofs.product.is_met.Given as goal

-- none of the items so far is met
abbrev pub invariant-loop-item : goal.invariant-loop-item
invariant-loop-item g l =
    (l.from ≤ length l.longer_suffixes)
    × ((item : ℕ) → item < l.from → Contains (g.C.Cell.symbols l.left) item
    → IsItemMet l.longer_suffixes (g.C.Cell.symbols l.right) item → ⊥)

abbrev pub decreases-loop-item : goal.decreases-loop-item
decreases-loop-item g l = length l.longer_suffixes - l.from
