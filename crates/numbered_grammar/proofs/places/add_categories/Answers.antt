use Rattle.std.proofs.Common.{subst, ap, ◌∙◌}
use Rattle.std.proofs.lemmas.List.{take_all}
use Rattle.spec_grammar.specs.declared.rule.Symbol.TheVariants.{Category}
use Rattle.numbered_grammar.specs.Places.{categories_from, entries_in, AddsSymbol, HasOneEach}
use Rattle.numbered_grammar.proofs.PlaceLemmas.{category_more, category_repeated}
use Rattle.numbered_grammar.proofs.places.add_categories.Goals as goal

pub returns-then-not-branch : goal.returns-then-not-branch
returns-then-not-branch c =
    category_repeated c.args.names.now c.loop-number.number c.index-names-number.result c.loop-number-test.true c.index-names-number.is
    (entries_in c.loop-number.places) (entries_in c.add_symbol.new.places) c.loop-number.invariant.entries c.loop-number.invariant.one_each
    (subst (AddsSymbol (entries_in c.loop-number.places) (entries_in c.add_symbol.new.places) c.index-names-number.result (Category c.loop-number.number)) c.if-not-branch.true c.in_ok-add_symbol.ensures)

pub loop-number-preserved : goal.loop-number-preserved
loop-number-preserved c =
    let more = category_more c.args.names.now c.loop-number.number c.index-names-number.result c.loop-number-test.true c.index-names-number.is
    (entries_in c.loop-number.places) (entries_in c.add_symbol.new.places) c.loop-number.invariant.entries c.loop-number.invariant.one_each
    (subst (AddsSymbol (entries_in c.loop-number.places) (entries_in c.add_symbol.new.places) c.index-names-number.result (Category c.loop-number.number)) c.if-not-branch.false c.in_ok-add_symbol.ensures) in
    record { entries = more.0; one_each = more.1 }

pub returns : goal.returns
returns c =
    let whole = c.loop-number.invariant.entries ∙ ap (categories_from 0) (take_all c.loop-number.number c.args.names.now c.loop-number-test.false) in
    (whole, subst HasOneEach whole c.loop-number.invariant.one_each)
