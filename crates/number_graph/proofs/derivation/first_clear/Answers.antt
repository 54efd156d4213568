use Rattle.std.proofs.Common.{slice_index_or}
use Rattle.number_graph.proofs.LinkLemmas.{stands_at}
use Rattle.number_graph.proofs.derivation.first_clear.Goals as goal

pub bounds-flags-numbers : goal.bounds-flags-numbers
bounds-flags-numbers c =
    let numbers = c.args.numbers.now in
    let place = c.loop-place.place in
    c.requires (slice_index_or numbers place 0) (stands_at numbers place c.loop-place-test.true)
