use Rattle.std.proofs.Common.{subst, ap, sym, ◌∙◌, append-nil}
use Rattle.std.proofs.lemmas.List.{take_all}
use Rattle.numbered_grammar.specs.Places.{categories_from, named_symbols, entries_in, AddsKind, HasOneEach}
use Rattle.numbered_grammar.proofs.PlaceLemmas.{kind_more, kind_repeated}
use Rattle.numbered_grammar.proofs.places.add_kinds.Goals as goal

pub loop-number-init : goal.loop-number-init
loop-number-init c = record {
  entries = c.requires.categories ∙ sym (append-nil (categories_from 0 c.args.names.now));
  one_each = subst HasOneEach (sym c.requires.categories) c.requires.one_each;
}

pub returns-then-not-branch : goal.returns-then-not-branch
returns-then-not-branch c =
    kind_repeated c.args.names.now c.args.kinds.now c.loop-number.number c.index-kinds-number.result c.loop-number-test.true c.index-kinds-number.is
    (entries_in c.loop-number.places) (entries_in c.add_kind.new.places) c.loop-number.invariant.entries c.loop-number.invariant.one_each
    (subst (AddsKind (entries_in c.loop-number.places) (entries_in c.add_kind.new.places) c.index-kinds-number.result c.loop-number.number) c.if-not-branch.true c.in_ok-add_kind.ensures)

pub loop-number-preserved : goal.loop-number-preserved
loop-number-preserved c =
    let more = kind_more c.args.names.now c.args.kinds.now c.loop-number.number c.index-kinds-number.result c.loop-number-test.true c.index-kinds-number.is
    (entries_in c.loop-number.places) (entries_in c.add_kind.new.places) c.loop-number.invariant.entries c.loop-number.invariant.one_each
    (subst (AddsKind (entries_in c.loop-number.places) (entries_in c.add_kind.new.places) c.index-kinds-number.result c.loop-number.number) c.if-not-branch.false c.in_ok-add_kind.ensures) in
    record { entries = more.0; one_each = more.1 }

pub returns : goal.returns
returns c =
    let whole = c.loop-number.invariant.entries ∙ ap (named_symbols c.args.names.now) (take_all c.loop-number.number c.args.kinds.now c.loop-number-test.false) in
    (whole, subst HasOneEach whole c.loop-number.invariant.one_each)
