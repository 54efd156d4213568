use Rattle.std.proofs.Common.{refl}
use Rattle.cell_sets.proofs.PlacesLemmas.{missing, adds_symbol, rising_insert}
use Rattle.cell_sets.proofs.places.insert_into.Goals as goal

pub returns-in_ok-insert-in-Err-clause-ok : goal.returns-in_ok-insert-in-Err-clause-ok
returns-in_ok-insert-in-Err-clause-ok c =
    let gap = rw c.as_slice.ensures.value at c.in-Err.ensures in
    rw c.in_ok-insert-in-Err.ensures.items (adds_symbol c.args.items.now.items c.args.symbol c.in-Err.at gap)

pub returns-in_ok-insert-in-Err-clause-new : goal.returns-in_ok-insert-in-Err-clause-new
returns-in_ok-insert-in-Err-clause-new c =
    let gap = rw c.as_slice.ensures.value at c.in-Err.ensures in
    ((λ _. missing c.args.items.now.items c.args.symbol c.in-Err.at gap), (λ _. refl))

pub returns-in_ok-insert-in-Err-clause-rising : goal.returns-in_ok-insert-in-Err-clause-rising
returns-in_ok-insert-in-Err-clause-rising c =
    let gap = rw c.as_slice.ensures.value at c.in-Err.ensures in
    rw c.in_ok-insert-in-Err.ensures.items
    (rising_insert c.args.items.now.items c.args.symbol c.in-Err.at gap c.requires)
