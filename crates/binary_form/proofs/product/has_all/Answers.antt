use Rattle.std.proofs.Common.{arith}
use Rattle.binary_form.proofs.GivingLemmas.{has_next, has_each}
use Rattle.binary_form.proofs.product.has_all.Goals as goal

pub loop-symbol-preserved : goal.loop-symbol-preserved
loop-symbol-preserved g c =
    let symbols = g.C.Cell.symbols in
    let next = c.in-Some.ensures in (
      omega (arith, next.1),
      has_next (symbols c.args.part.now) (symbols c.args.cell.now) c.args.count c.loop-symbol.from c.in-Some.symbol
          next c.loop-symbol.invariant.1 (c.has.ensures.0 c.if-not-has.false),
    )

pub returns : goal.returns
returns g c = λ _.
    let symbols = g.C.Cell.symbols in
    has_each (symbols c.args.part.now) (symbols c.args.cell.now) c.args.count c.loop-symbol.from
    c.in_default.ensures c.requires.below c.loop-symbol.invariant.1
