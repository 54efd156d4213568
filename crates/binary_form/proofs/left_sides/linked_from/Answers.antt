use Rattle.std.proofs.Common.{[], refl, arith}
use Rattle.number_graph.specs.Graphs.{HasLink}
use Rattle.number_graph.proofs.LinkLemmas.{link_within}
use Rattle.binary_form.specs.Products.{OneGives}
use Rattle.binary_form.proofs.GivingLemmas.{given_more, given_all}
use Rattle.binary_form.proofs.LeftSideLemmas.{added_to_none}
use Rattle.binary_form.proofs.left_sides.linked_from.Goals as goal

pub with_numbers-requires-clause-room : goal.with_numbers-requires-clause-room
with_numbers-requires-clause-room g c κs within n has =
    let below = c.requires.within c.in-Some.number n (rw c.from.ensures at has) in
    omega (arith, below, c.requires.room)

pub loop-number-preserved : goal.loop-number-preserved
loop-number-preserved g c =
    let symbols = g.C.Cell.symbols in
    let next = c.in-Some.ensures in (
      omega (arith, next.1, c.count.ensures),
      given_more (HasLink c.args.links.now) (symbols c.args.cell.now) [] c.count.result c.loop-number.from
          c.in-Some.number (symbols c.loop-number.linked) (symbols c.in_ok-linked.linked) next
          c.loop-number.invariant.1 (rw c.from.ensures at c.in_ok-linked.ensures),
    )

pub returns : goal.returns
returns g c =
    let symbols = g.C.Cell.symbols in
    let links = c.args.links.now in
    added_to_none (OneGives (HasLink links) (symbols c.args.cell.now)) [] (symbols c.loop-number.linked) refl
    (given_all (HasLink links) (symbols c.args.cell.now) [] c.count.result c.loop-number.from
    (symbols c.loop-number.linked) c.in_default.ensures
    (λ giver n link. rw c.count.ensures (link_within links giver n link)) c.loop-number.invariant.1)
