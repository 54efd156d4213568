use Rattle.std.proofs.Common.{slice_index_or, take}
use Rattle.std.proofs.lemmas.List.{take_more}
use Rattle.number_graph.proofs.LinkLemmas.{stands_at}
use Rattle.number_graph.proofs.HeightLemmas.{height_more}
use Rattle.number_graph.proofs.chains.height_above.Goals as goal

pub bounds-heights-target : goal.bounds-heights-target
bounds-heights-target c =
    let targets = c.args.targets.now in
    let place = c.loop-target.target-index in
    c.requires.within (slice_index_or targets place 0) (stands_at targets place c.loop-target-test.true)

pub loop-target-preserved : goal.loop-target-preserved
loop-target-preserved c =
    let targets = c.args.targets.now in
    let place = c.loop-target.target-index in
    rw (take_more targets place 0 c.loop-target-test.true)
    (height_more (take place targets) c.args.heights.now (slice_index_or targets place 0) c.loop-target.height
    c.height_with-height.result c.loop-target.invariant c.height_with-height.ensures)
