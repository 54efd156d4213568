-- The image so far is that of the entries so far.
use Rattle.std.proofs.Common.{map}
use Rattle.quad_mat.specs.Products.{IsImageUpTo}
use Rattle.quad_mat.proofs.images.image_of.Given as goal

abbrev pub invariant-loop-entry : goal.invariant-loop-entry
invariant-loop-entry g l =
    let symbols = g.C.Cell.symbols in
    let factors = (l.fn).factors in
    IsImageUpTo (factors.bin).now l.columns (map symbols ((factors.left).now).cells.items)
    (map symbols ((factors.right).now).cells.items) (map symbols (l.fn).cells.items)
    (map symbols l.cells.items) l.products l.left l.row l.entry-index l.image
