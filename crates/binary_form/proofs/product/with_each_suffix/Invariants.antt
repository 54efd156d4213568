use Rattle.std.proofs.Common.{take}
use Rattle.cell_sets.specs.Cells.{Adds}
use Rattle.binary_form.specs.Products.{OneGives, SuffixGives}
use Rattle.binary_form.proofs.product.with_each_suffix.Given as goal

-- the closures of the suffixes so far are in the cell
abbrev pub invariant-loop-suffix : goal.invariant-loop-suffix
invariant-loop-suffix g l =
    let symbols = g.C.Cell.symbols in
    Adds (OneGives (SuffixGives symbols l.closures (symbols l.right)) (take l.suffix-index l.suffixes))
    (symbols (l.fn).start) (symbols l.cell)
