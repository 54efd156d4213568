-- The table of one of the kinds, with the places of the kinds.
use Rattle.std.proofs.Common.{map, refl, sym, arith, subst}
use Rattle.std.proofs.lemmas.List.{length-map}
use Rattle.spec_automata.specs.Encoding.{one_of_these}
use Rattle.lbnf_regex.specs.Automata.{RecognisesThese}
use Rattle.lbnf_regex.specs.Patterns.{bytes_of_pattern}
use Rattle.lbnf_regex.specs.States.{IsTable, ArePlaces}
use Rattle.lbnf_regex.proofs.CountingLemmas.{few_sets}
use Rattle.lbnf_regex.proofs.PlaceLemmas.{is_whole, recognises}
use Rattle.lbnf_regex.proofs.build.automaton_of.Goals as goal

pub returns-clause-these : goal.returns-clause-these
returns-clause-these c =
    let xs = map bytes_of_pattern c.args.kinds in
    let made = c.in_ok-states.field-0 in
    let table : IsTable (one_of_these xs) c.args.most made.states made.rows =
    rw (c.parts_of-parts.ensures c.args.kinds refl) at c.in_ok-states.ensures.table in
    let are : ArePlaces xs made.states c.in_ok-places.places =
    rw (c.parts_of-parts.ensures c.args.kinds refl) at c.in_ok-places.ensures in
    subst (RecognisesThese xs c.args.comments) (sym c.of.ensures)
    (recognises xs c.args.most c.args.comments made.states made.rows c.in_ok-places.places c.requires.room
    (omega (arith, c.requires.few, length-map c.args.kinds bytes_of_pattern)) table are)

pub returns-clause-few : goal.returns-clause-few
returns-clause-few c =
    let x = one_of_these (map bytes_of_pattern c.args.kinds) in
    let made = c.in_ok-states.field-0 in
    let table : IsTable x c.args.most made.states made.rows =
    rw (c.parts_of-parts.ensures c.args.kinds refl) at c.in_ok-states.ensures.table in
    few_sets x c.args.most made.states made.rows table

pub of-requires : goal.of-requires
of-requires c =
    let xs = map bytes_of_pattern c.args.kinds in
    let made = c.in_ok-states.field-0 in
    let table : IsTable (one_of_these xs) c.args.most made.states made.rows =
    rw (c.parts_of-parts.ensures c.args.kinds refl) at c.in_ok-states.ensures.table in
    let are : ArePlaces xs made.states c.in_ok-places.places =
    rw (c.parts_of-parts.ensures c.args.kinds refl) at c.in_ok-places.ensures in
    is_whole xs (one_of_these xs) c.args.most c.args.comments made.states made.rows c.in_ok-places.places c.requires.room
    (omega (arith, c.requires.few, length-map c.args.kinds bytes_of_pattern)) table are
