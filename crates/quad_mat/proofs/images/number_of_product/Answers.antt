-- A product that is remembered, or one that is made.
use Rattle.std.proofs.Common.{map}
use Rattle.quad_mat.proofs.ImageLemmas.{product_found, product_new, product_read}
use Rattle.quad_mat.proofs.images.number_of_product.Goals as goal

pub returns-in-Some : goal.returns-in-Some
returns-in-Some g c =
    let symbols = g.C.Cell.symbols in
    let factors = c.args.factors.now in
    product_found factors.bin.now (map symbols factors.left.now.cells.items) (map symbols factors.right.now.cells.items)
    (map symbols c.args.cells.now.items) c.args.products.now c.args.left c.args.right c.in-Some.number
    c.requires.full c.requires.remembered (rw c.as_slice.ensures at c.in-Some.ensures)

pub returns : goal.returns
returns g c =
    let symbols = g.C.Cell.symbols in
    let factors = c.args.factors.now in
    let left = factors.left.now.cells.items in
    let right = factors.right.now.cells.items in
    product_new factors.bin.now (map symbols left) (map symbols right) c.push.result (map symbols c.args.cells.now.items)
    (map symbols c.number_unless_empty.new.cells.items) c.args.products.now c.push.new.self c.args.left c.args.right
    c.in_ok-number.number (symbols c.in_ok-cell.cell) c.requires.remembered
    (product_read symbols factors.bin.now left right c.args.left c.args.right c.index-one.result.now
    c.index-other.result.now (symbols c.in_ok-cell.cell) c.requires.left c.requires.right c.index-one.ensures
    c.index-other.ensures c.in_ok-cell.ensures)
    c.in_ok-number.ensures c.push.ensures.ok c.push.ensures.err
