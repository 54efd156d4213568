-- One entry more.
use Rattle.std.proofs.Common.{map}
use Rattle.quad_mat.proofs.ImageLemmas.{image_step}
use Rattle.quad_mat.proofs.images.image_of.Goals as goal

pub loop-entry-preserved : goal.loop-entry-preserved
loop-entry-preserved g c =
    let symbols = g.C.Cell.symbols in
    let factors = c.args.factors.now in
    image_step factors.bin.now (map symbols factors.left.now.cells.items) (map symbols factors.right.now.cells.items)
    c.args.columns (map symbols c.args.cells.now.items) c.args.left c.args.row.now (map symbols c.loop-entry.cells.items)
    (map symbols c.push_product.new.cells.items) c.loop-entry.products c.push_product.new.products
    c.loop-entry.entry-index c.loop-entry.image c.push_product.new.image c.requires.row c.loop-entry-test.true
    c.loop-entry.invariant c.in_ok-push_product.ensures
