-- By the rows of the product.
use Rattle.std.proofs.Common.{map, ◌∙◌}
use Rattle.quad_mat.specs.Products.{ProductHas}
use Rattle.quad_mat.proofs.LoadingLemmas.{numbers_below}
use Rattle.quad_mat.proofs.ImageLemmas.{making_start}
use Rattle.quad_mat.proofs.ProductLemmas.{product_mat}
use Rattle.quad_mat.proofs.mat.product_of.Goals as goal

pub product_rows-requires-clause-making : goal.product_rows-requires-clause-making
product_rows-requires-clause-making g c κs within =
    let symbols = g.C.Cell.symbols in
    let factors = c.args.factors.now in
    let made = c.in_ok-making.ensures in
    let room = c.in_ok-making.making.room in
    making_start factors.bin.now (map symbols factors.left.now.cells.items) (map symbols factors.right.now.cells.items)
    factors.right.now.rows room.columns (map symbols room.cells.items) room.rows room.unions
    c.in_ok-making.making.products c.in_ok-making.making.images (rw made.columns made.room) made.none.0 made.none.1

pub finished-requires-clause-numbers : goal.finished-requires-clause-numbers
finished-requires-clause-numbers g c κs within =
    let symbols = g.C.Cell.symbols in
    let factors = c.args.factors.now in
    let room = c.product_rows.new.making.room in
    numbers_below (ProductHas symbols factors.bin.now factors.left.now factors.right.now) (map symbols room.cells.items)
    room.rows c.in_ok-numbers.numbers c.in_ok-numbers.ensures.rows

pub returns : goal.returns
returns g c =
    let symbols = g.C.Cell.symbols in
    let factors = c.args.factors.now in
    let room = c.product_rows.new.making.room in
    let made = c.in_ok-numbers.ensures in
    let columns = made.more.columns ∙ c.in_ok-making.ensures.columns in
    product_mat symbols factors.bin.now factors.left.now factors.right.now c.args.columns (map symbols room.cells.items)
    room.rows c.in_ok-numbers.numbers c.in_ok-mat.mat made.count made.rows (rw columns at c.in_ok-mat.ensures)
