-- Nothing is known at first; one row more.
use Rattle.std.proofs.Common.{map, length, get_or, ◌<◌, ◌+◌, ◌∙◌, ap, refl, arith}
use Rattle.std.proofs.lemmas.List.{length_push}
use Rattle.quad_mat.specs.Products.{ProductHas}
use Rattle.quad_mat.proofs.LoadingLemmas.{numbers_none}
use Rattle.quad_mat.proofs.ProductLemmas.{more_self, more_then, row_products_none, product_next}
use Rattle.quad_mat.proofs.products.product_rows.Goals as goal

pub loop-i-init : goal.loop-i-init
loop-i-init g c =
    let symbols = g.C.Cell.symbols in
    let factors = c.args.factors.now in
    let bin = factors.bin.now in
    let left = factors.left.now in
    let right = factors.right.now in
    let making = c.args.making.now in
    rw c.in_ok-numbers.ensures (record {
      more = more_self symbols bin left right making c.requires.making;
      known =
          row_products_none symbols bin left right making c.in_ok-known.known
          (c.in_ok-known.ensures.count ∙ c.len.ensures) c.in_ok-known.ensures.none;
      count = refl;
      rows = numbers_none (ProductHas symbols bin left right) (map symbols making.room.cells.items) making.room.rows;
    })

pub number_of_row_product-requires-clause-row : goal.number_of_row_product-requires-clause-row
number_of_row_product-requires-clause-row g c κs within =
    let left = c.args.factors.now.left.now in
    let inside : c.loop-i.i < length c.as_slice-named.result.now = omega (arith, c.loop-i-test.true) in
    rw c.as_slice-named.ensures
    (c.requires.left.each (get_or left.numbers c.loop-i.i 0)
    (c.requires.left.within c.loop-i.i (rw c.as_slice-named.ensures at inside)))

pub loop-i-preserved : goal.loop-i-preserved
loop-i-preserved g c =
    let symbols = g.C.Cell.symbols in
    let factors = c.args.factors.now in
    let bin = factors.bin.now in
    let left = factors.left.now in
    let right = factors.right.now in
    let now = c.loop-i.making in
    let new = c.number_of_row_product.new.making in
    let before = c.loop-i.invariant in
    let made = c.in_ok-number.ensures in
    rw c.in_ok-push.ensures.ok (record {
      more = more_then symbols bin left right c.args.making.now now new before.more made.more;
      known = made.known;
      count = length_push c.loop-i.numbers c.in_ok-number.number ∙ ap (λ n. n + 1) before.count;
      rows =
          product_next symbols bin left right now new c.loop-i.numbers c.loop-i.i _ c.in_ok-number.number before.more.making
          made.more (ap (λ xs. get_or xs c.loop-i.i 0) c.as_slice-named.ensures) before.count made.row before.rows;
    })
