use Rattle.std.proofs.Common.{slice_index_or, refl, arith}
use Rattle.number_graph.proofs.LinkLemmas.{stands_at}
use Rattle.number_graph.proofs.HeightLemmas.{heights_more}
use Rattle.number_graph.proofs.chains.heights_along.Goals as goal

pub from-requires : goal.from-requires
from-requires c =
    let order = c.args.order.now in
    let place = c.loop-number.number-index in
    c.requires.numbers (slice_index_or order place 0) (stands_at order place c.loop-number-test.true)

pub height_above-height-requires-clause-within : goal.height_above-height-requires-clause-within
height_above-height-requires-clause-within c =
    rw (c.from.ensures, c.as_slice.ensures.value, c.loop-number.invariant.count)
    (c.requires.within (slice_index_or c.args.order.now c.loop-number.number-index 0))

pub index_mut-requires : goal.index_mut-requires
index_mut-requires c =
    let order = c.args.order.now in
    let place = c.loop-number.number-index in
    let below = c.requires.numbers (slice_index_or order place 0) (stands_at order place c.loop-number-test.true) in
    omega (arith, below, c.loop-number.invariant.count, c.loop-number.heights.ok.0)

pub loop-number-preserved : goal.loop-number-preserved
loop-number-preserved c =
    let order = c.args.order.now in
    let place = c.loop-number.number-index in
    let within = c.loop-number-test.true in
    heights_more c.args.links.now order place c.loop-number.heights.items (slice_index_or order place 0)
    c.height_above-height.result c.loop-number.invariant within
    (c.requires.numbers (slice_index_or order place 0) (stands_at order place within)) refl
    (c.requires.order place within) (rw (c.from.ensures, c.as_slice.ensures.value) at c.height_above-height.ensures)
