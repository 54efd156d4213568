use Rattle.std.proofs.Common.{arith}
use Rattle.std.proofs.lemmas.Bool.{false≢true}
use Rattle.binary_form.specs.Products.{IsItemMet}
use Rattle.number_graph.proofs.LinkLemmas.{link_within}
use Rattle.binary_form.proofs.GivingLemmas.{none_up_to, none_at_all}
use Rattle.binary_form.proofs.product.is_met.Goals as goal

pub goes_on-requires-clause-below : goal.goes_on-requires-clause-below
goes_on-requires-clause-below g c κs within =
    rw (c.from.ensures, c.count-in-Some.ensures) (c.requires.below c.in-Some.item)

pub loop-item-preserved : goal.loop-item-preserved
loop-item-preserved g c =
    let symbols = g.C.Cell.symbols in
    let next = c.in-Some.ensures in
    let unmet = rw c.from.ensures at c.if-goes_on.ensures in (
      omega (arith, next.1, c.count.ensures),
      none_up_to (IsItemMet c.args.longer_suffixes.now (symbols c.args.right.now)) (symbols c.args.left.now)
          c.count.result c.loop-item.from c.in-Some.item next c.loop-item.invariant.1
          (λ met. false≢true (unmet.1 met)),
    )

pub returns : goal.returns
returns g c =
    let symbols = g.C.Cell.symbols in
    let none = none_at_all (IsItemMet c.args.longer_suffixes.now (symbols c.args.right.now)) (symbols c.args.left.now)
    c.count.result c.loop-item.from c.in_default.ensures c.loop-item.invariant.1
    (λ item met. rw c.count.ensures (link_within c.args.longer_suffixes.now item met.0 met.1)) in
    ((λ found. absurd (false≢true found)), (λ found. absurd (none found)))
