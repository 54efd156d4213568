-- The sum so far is that of the entries so far.
use Rattle.quad_mat.specs.Products.{IsRowProductOf, MakesMore}
use Rattle.quad_mat.proofs.products.row_product.Given as goal

abbrev pub invariant-loop-entry : goal.invariant-loop-entry
invariant-loop-entry g l =
    let factors = (l.fn).factors in
    let left = (factors.left).now in
    let right = (factors.right).now in record {
      more : MakesMore g.C.Cell.symbols (factors.bin).now left right (l.fn).making l.making;
      sum : IsRowProductOf g.C.Cell.symbols (factors.bin).now left right l.row l.entry-index l.making l.sum;
    }
