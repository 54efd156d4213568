use Rattle.std.proofs.Common.{subst}
use Rattle.numbered_grammar.specs.Making.{grammar_of_symbols}
use Rattle.numbered_grammar.specs.Places.{categories_from, kinds_from, named_symbols, entries_in, AddsAll}
use Rattle.numbered_grammar.proofs.PlaceLemmas.{one_each_distinct, distinct_one_each, front_one}
use Rattle.numbered_grammar.proofs.places.symbol_places.Goals as goal

pub returns-then-not-branch : goal.returns-then-not-branch
returns-then-not-branch c distinct =
    let g = grammar_of_symbols c.args.names.now c.args.kinds.now in
    let names = categories_from 0 c.args.names.now in
    let repeated = subst (AddsAll (entries_in c.add_categories.new.places) names) c.if-not-branch.true c.in_ok-add_categories.ensures in
    repeated (front_one names (kinds_from 0 c.args.kinds.now) (distinct_one_each g distinct))

pub returns-then-not-branch-2 : goal.returns-then-not-branch-2
returns-then-not-branch-2 c distinct =
    let g = grammar_of_symbols c.args.names.now c.args.kinds.now in
    let names = named_symbols c.args.names.now c.args.kinds.now in
    let repeated = subst (AddsAll (entries_in c.add_kinds.new.places) names) c.if-not-branch-2.true c.in_ok-add_kinds.ensures in
    repeated (distinct_one_each g distinct)

pub returns : goal.returns
returns c =
    let g = grammar_of_symbols c.args.names.now c.args.kinds.now in
    let names = named_symbols c.args.names.now c.args.kinds.now in
    let added = subst (AddsAll (entries_in c.add_kinds.new.places) names) c.if-not-branch-2.false c.in_ok-add_kinds.ensures in
    (added.0, one_each_distinct g added.1)
