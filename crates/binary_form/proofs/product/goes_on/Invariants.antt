use Rattle.std.proofs.Common.{ℕ, take}
use Rattle.std.specs.List.{Contains}
use Rattle.binary_form.specs.Products.{HasNextItem}
use Rattle.binary_form.proofs.product.goes_on.Given as goal

-- none of the suffixes so far goes on
abbrev pub invariant-loop-suffix : goal.invariant-loop-suffix
invariant-loop-suffix g l =
    (suffix : ℕ) → Contains (take l.suffix-index l.suffixes) suffix
    → HasNextItem (g.C.Cell.symbols l.right) suffix → ⊥
