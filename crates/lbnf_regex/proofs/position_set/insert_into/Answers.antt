-- A position is put into its gap, if it is missing.
use Rattle.std.specs.Prelude.{Err}
use Rattle.cell_sets.specs.Places.{IsGapAt}
use Rattle.cell_sets.proofs.PlacesLemmas.{place_searched, adds_symbol, rising_insert}
use Rattle.lbnf_regex.proofs.position_set.insert_into.Goals as goal

pub returns-in_ok-insert-in-Err-clause-ok : goal.returns-in_ok-insert-in-Err-clause-ok
returns-in_ok-insert-in-Err-clause-ok c =
    let positions = c.args.positions.now.items in
    let search = rw (c.as_slice.ensures.value, c.in-Err.is) at c.binary_search.ensures.position in
    let gap : IsGapAt positions c.args.position c.in-Err.at =
    place_searched positions c.args.position (Err c.in-Err.at) c.requires search in
    rw c.in_ok-insert-in-Err.ensures.items (adds_symbol positions c.args.position c.in-Err.at gap)

pub returns-in_ok-insert-in-Err-clause-rising : goal.returns-in_ok-insert-in-Err-clause-rising
returns-in_ok-insert-in-Err-clause-rising c =
    let positions = c.args.positions.now.items in
    let search = rw (c.as_slice.ensures.value, c.in-Err.is) at c.binary_search.ensures.position in
    let gap : IsGapAt positions c.args.position c.in-Err.at =
    place_searched positions c.args.position (Err c.in-Err.at) c.requires search in
    rw c.in_ok-insert-in-Err.ensures.items (rising_insert positions c.args.position c.in-Err.at gap c.requires)
