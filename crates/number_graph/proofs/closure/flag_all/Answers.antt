use Rattle.std.proofs.Common.{◌∷◌, [], take, slice_index_or, ℕ}
use Rattle.std.proofs.lemmas.List.{get_or_default, take_more}
use Rattle.number_graph.proofs.FlagLemmas.{flags_more}
use Rattle.number_graph.proofs.closure.flag_all.Goals as goal

pub flag-requires : goal.flag-requires
flag-requires c =
    let targets = c.args.targets.now in
    let place = c.loop-target.target-index in
    let target : ℕ = slice_index_or targets place 0 in
    rw c.loop-target.invariant.count (c.requires target
    (place, c.loop-target-test.true, get_or_default targets place target 0 c.loop-target-test.true))

pub loop-target-preserved : goal.loop-target-preserved
loop-target-preserved c =
    let targets = c.args.targets.now in
    let place = c.loop-target.target-index in
    rw (take_more targets place 0 c.loop-target-test.true)
    (flags_more (take place targets) (slice_index_or targets place 0 ∷ []) c.args.flags.now.items
    c.loop-target.flags.items c.flag.new.flags.items c.args.waiting.now.items c.loop-target.waiting.items
    c.flag.new.waiting.items c.loop-target.invariant c.in_ok-flag.ensures.sets)
