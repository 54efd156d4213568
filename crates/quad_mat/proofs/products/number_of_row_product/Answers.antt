-- A product that is known, or one that is made.
use Rattle.quad_mat.proofs.ProductLemmas.{more_self, row_products_set}
use Rattle.quad_mat.proofs.products.number_of_row_product.Goals as goal

pub returns-in-Some-clause-more : goal.returns-in-Some-clause-more
returns-in-Some-clause-more g c =
    let factors = c.args.factors.now in
    more_self g.C.Cell.symbols factors.bin.now factors.left.now factors.right.now c.args.making.now c.requires.making

pub returns-in-Some-clause-row : goal.returns-in-Some-clause-row
returns-in-Some-clause-row g c = c.requires.known.each c.args.n c.in-Some.number c.in-Some.ensures

pub row_product-requires-clause-row : goal.row_product-requires-clause-row
row_product-requires-clause-row g c κs within = rw (c.row_at-row.ensures, c.as_slice.ensures) c.requires.row

pub returns-clause-row : goal.returns-clause-row
returns-clause-row g c = rw (c.row_at-row.ensures, c.as_slice.ensures) at c.in_ok-number.ensures.row

pub returns-clause-known : goal.returns-clause-known
returns-clause-known g c =
    let factors = c.args.factors.now in
    rw c.set.ensures
    (row_products_set g.C.Cell.symbols factors.bin.now factors.left.now factors.right.now c.args.making.now
    c.row_product.new.making c.args.known.now c.args.n c.in_ok-number.number c.requires.within c.requires.making
    c.in_ok-number.ensures.more (returns-clause-row g c) c.requires.known)
