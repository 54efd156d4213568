use Rattle.std.proofs.Common.{sym, ◌∙◌}
use Rattle.std.proofs.lemmas.Result.{IfOk-weaker}
use Rattle.number_graph.specs.Chains.{AreHeights}
use Rattle.number_graph.proofs.HeightLemmas.{links_imply, order_within, order_of_links, heights_told}
use Rattle.number_graph.proofs.chains.heights.Goals as goal

pub derivation-requires : goal.derivation-requires
derivation-requires c =
    rw c.as_slice.ensures.value (links_imply c.args.links.now c.count-2.result c.in_ok-numbers.numbers.items
    c.requires.within c.count-2.ensures
    (rw (c.count.ensures ∙ sym c.count-2.ensures) at c.in_ok-numbers.ensures))

pub heights_along-requires-clause-numbers : goal.heights_along-requires-clause-numbers
heights_along-requires-clause-numbers c =
    rw c.as_slice-2.ensures.value (order_within c.args.links.now c.count-2.result c.in_ok-numbers.numbers.items
    c.in_ok-found.found c.requires.within c.count-2.ensures
    (rw (c.count.ensures ∙ sym c.count-2.ensures) at c.in_ok-numbers.ensures)
    (rw c.as_slice.ensures.value at c.in_ok-found.ensures))

pub heights_along-requires-clause-order : goal.heights_along-requires-clause-order
heights_along-requires-clause-order c =
    rw c.as_slice-2.ensures.value (order_of_links c.args.links.now c.count-2.result c.in_ok-numbers.numbers.items
    c.in_ok-found.found c.requires.within c.count-2.ensures
    (rw (c.count.ensures ∙ sym c.count-2.ensures) at c.in_ok-numbers.ensures)
    (rw c.as_slice.ensures.value at c.in_ok-found.ensures))

pub returns : goal.returns
returns c =
    IfOk-weaker c.heights_along.result _
    (λ heights. AreHeights c.args.links.now heights.items)
    (λ heights. heights_told c.args.links.now c.count-2.result c.in_ok-numbers.numbers.items
    c.in_ok-found.found c.requires.within c.count-2.ensures
    (rw (c.count.ensures ∙ sym c.count-2.ensures) at c.in_ok-numbers.ensures)
    (rw c.as_slice.ensures.value at c.in_ok-found.ensures) heights.items)
    (rw c.as_slice-2.ensures.value at c.heights_along.ensures)
