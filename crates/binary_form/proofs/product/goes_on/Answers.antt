use Rattle.std.proofs.Common.{get_or, arith}
use Rattle.std.proofs.lemmas.List.Elements.{Contains-get_or}
use Rattle.std.proofs.lemmas.Bool.{false≢true}
use Rattle.binary_form.specs.Products.{HasNextItem}
use Rattle.binary_form.proofs.GivingLemmas.{none_more, none_of_all}
use Rattle.binary_form.proofs.product.goes_on.Goals as goal

pub overflow_add-suffix : goal.overflow_add-suffix
overflow_add-suffix g c =
    let suffixes = c.args.suffixes.now in
    let place = c.loop-suffix.suffix-index in
    let below = c.requires.below (get_or suffixes place 0) (Contains-get_or suffixes place 0 c.loop-suffix-test.true) in
    record { fits = omega (arith, below, c.requires.few) }

pub has-requires : goal.has-requires
has-requires g c =
    let suffixes = c.args.suffixes.now in
    let place = c.loop-suffix.suffix-index in
    let below = c.requires.below (get_or suffixes place 0) (Contains-get_or suffixes place 0 c.loop-suffix-test.true) in
    omega (arith, below, c.requires.room)

pub loop-suffix-preserved : goal.loop-suffix-preserved
loop-suffix-preserved g c =
    none_more (HasNextItem (g.C.Cell.symbols c.args.right.now)) c.args.suffixes.now c.loop-suffix.suffix-index
    c.loop-suffix-test.true c.loop-suffix.invariant (λ fits. false≢true (c.if-has.ensures.1 fits))

pub returns : goal.returns
returns g c =
    let none = none_of_all (HasNextItem (g.C.Cell.symbols c.args.right.now)) c.args.suffixes.now c.loop-suffix.suffix-index
    c.loop-suffix-test.false c.loop-suffix.invariant in
    ((λ found. absurd (false≢true found)), (λ found. absurd (none found)))
