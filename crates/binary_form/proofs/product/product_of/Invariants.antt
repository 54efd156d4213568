use Rattle.std.proofs.Common.{◌≤◌, ◌-◌, length}
use Rattle.binary_form.specs.Products.{ItemGives}
use Rattle.binary_form.proofs.GivingLemmas.{IsGivenBelow}
use Rattle.binary_form.proofs.product.product_of.Given as goal

-- the cell has what the items so far give
abbrev pub invariant-loop-item : goal.invariant-loop-item
invariant-loop-item g l =
    let symbols = g.C.Cell.symbols in
    (l.from ≤ length l.longer_suffixes)
    × IsGivenBelow (ItemGives symbols l.closures l.longer_suffixes (symbols l.right)) (symbols l.left) (symbols (l.fn).start) l.from (symbols l.cell)

abbrev pub decreases-loop-item : goal.decreases-loop-item
decreases-loop-item g l = length l.longer_suffixes - l.from
