-- The entry decides over a span that is not empty, and whether the symbol is nullable over one that is.
use Rattle.std.proofs.Common.{◌∙◌, ap}
use Rattle.spec_grammar.specs.Grammars.{Grammar}
use Rattle.binary_form.specs.Symbols.{plain, symbol_number}
use Rattle.chart_service.proofs.AnsweringLemmas.{entry_derives, empty_derives}
use Rattle.chart_service.proofs.answering.is_derived.Goals as goal

pub returns-then-first-end : goal.returns-then-first-end
returns-then-first-end g c text tokens o =
    let number =
    c.symbol_of-number.ensures.number
    ∙ ap (λ (h : Grammar). symbol_number h (plain c.args.symbol)) c.binary-binary.ensures in
    entry_derives c.args.language.now c.args.chart.now text tokens o c.args.symbol c.requires.own
    c.symbol_of-number.result number c.has.result c.args.first c.args.end c.if-first-end.true
    c.requires.within c.has.ensures

pub returns-else-first-end : goal.returns-else-first-end
returns-else-first-end g c text tokens o =
    let number =
    c.symbol_of-number.ensures.number
    ∙ ap (λ (h : Grammar). symbol_number h (plain c.args.symbol)) c.binary-binary.ensures in
    empty_derives c.args.language.now c.args.chart.now text tokens o c.args.symbol c.requires.own
    c.symbol_of-number.result number c.nullable.result c.args.first c.args.end c.requires.order
    c.if-first-end.false (rw c.binary-binary.ensures at c.nullable.ensures)
