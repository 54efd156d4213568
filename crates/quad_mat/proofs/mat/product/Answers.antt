-- By what both matrices keep.
use Rattle.quad_mat.proofs.ProductLemmas.{product_whole}
use Rattle.quad_mat.proofs.mat.product.Goals as goal

pub returns : goal.returns
returns g c =
    product_whole g.C.Cell.symbols c.args.bin.now c.in-Some.left.now c.in-Some-body.right.now c.args.a.now c.args.b.now
    c.in-Some.ensures c.in-Some-body.ensures c.requires.middle c.in_ok-product.product
    (rw (c.cols-2.ensures) at c.in_ok-product.ensures)
