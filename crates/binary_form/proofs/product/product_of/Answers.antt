use Rattle.std.proofs.Common.{arith}
use Rattle.binary_form.specs.Products.{ItemGives}
use Rattle.number_graph.proofs.LinkLemmas.{link_within}
use Rattle.binary_form.proofs.GivingLemmas.{given_more, given_all}
use Rattle.binary_form.proofs.product.product_of.Goals as goal

pub with_each_suffix-requires-clause-below : goal.with_each_suffix-requires-clause-below
with_each_suffix-requires-clause-below g c κs within = rw c.from.ensures (c.requires.below c.in-Some.item)

pub loop-item-preserved : goal.loop-item-preserved
loop-item-preserved g c =
    let symbols = g.C.Cell.symbols in
    let next = c.in-Some.ensures in (
      omega (arith, next.1, c.count.ensures),
      given_more (ItemGives symbols c.args.closures.now c.args.longer_suffixes.now (symbols c.args.right.now))
          (symbols c.args.left.now) (symbols c.args.start) c.count.result c.loop-item.from c.in-Some.item
          (symbols c.loop-item.cell) (symbols c.in_ok-cell.cell) next c.loop-item.invariant.1
          (rw c.from.ensures at c.in_ok-cell.ensures),
    )

pub returns : goal.returns
returns g c =
    let symbols = g.C.Cell.symbols in
    given_all (ItemGives symbols c.args.closures.now c.args.longer_suffixes.now (symbols c.args.right.now))
    (symbols c.args.left.now) (symbols c.args.start) c.count.result c.loop-item.from (symbols c.loop-item.cell) c.in_default.ensures
    (λ item n given. rw c.count.ensures (link_within c.args.longer_suffixes.now item given.0 given.1)) c.loop-item.invariant.1
