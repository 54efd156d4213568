use Rattle.std.proofs.Common.{ℕ, ◌<◌, ◌≤◌, ◌-◌, Contains}
use Rattle.binary_form.proofs.product.has_all.Given as goal

-- the cell has the symbols of the part so far
abbrev pub invariant-loop-symbol : goal.invariant-loop-symbol
invariant-loop-symbol g l =
    let symbols = g.C.Cell.symbols in
    (l.from ≤ l.count) × ((n : ℕ) → n < l.from → Contains (symbols l.part) n → Contains (symbols l.cell) n)

abbrev pub decreases-loop-symbol : goal.decreases-loop-symbol
decreases-loop-symbol g l = l.count - l.from
