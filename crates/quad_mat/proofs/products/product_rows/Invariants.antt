-- The numbers so far are those of the rows so far.
use Rattle.std.proofs.Common.{◌≡◌, length, map}
use Rattle.quad_mat.specs.Loading.{AreNumbersOf}
use Rattle.quad_mat.specs.Products.{AreRowProducts, MakesMore, ProductHas}
use Rattle.quad_mat.proofs.products.product_rows.Given as goal

abbrev pub invariant-loop-i : goal.invariant-loop-i
invariant-loop-i g l =
    let symbols = g.C.Cell.symbols in
    let factors = (l.fn).factors in
    let left = (factors.left).now in
    let right = (factors.right).now in record {
      more : MakesMore symbols (factors.bin).now left right (l.fn).making l.making;
      known : AreRowProducts symbols (factors.bin).now left right l.making l.known;
      count : length l.numbers ≡ l.i;
      rows : AreNumbersOf (ProductHas symbols (factors.bin).now left right)
          (map symbols ((l.making).room).cells.items) ((l.making).room).rows l.numbers;
    }
