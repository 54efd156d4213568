use Rattle.std.proofs.Common.{ℕ, length, slice_index_or, subst}
use Rattle.std.proofs.lemmas.Option.{slice_get-get_or}
use Rattle.binary_form.specs.RowLinks.{IsRowStep, AreLinksOfRows}
use Rattle.binary_form.proofs.RowLemmas.{no_row, row_within}
use Rattle.binary_form.proofs.StepLemmas.{links_of_more, unit_steps_are}
use Rattle.binary_form.proofs.steps.unit_steps.Goals as goal

pub add_steps-requires-clause-row : goal.add_steps-requires-clause-row
add_steps-requires-clause-row c =
    let rows = c.args.rows.now in
    let number = c.loop-number.number in
    rw (c.plain_count-first.ensures, c.requires.nullable.count)
    (row_within c.args.grammar.now rows c.requires.rows number (slice_index_or rows number no_row)
    (slice_get-get_or rows number no_row c.loop-number-test.true))

pub loop-number-preserved : goal.loop-number-preserved
loop-number-preserved c =
    let rows = c.args.rows.now in
    let number = c.loop-number.number in
    links_of_more (IsRowStep c.args.nullable.now) rows c.plain_count-first.result (length c.args.nullable.now) number
    (slice_index_or rows number no_row) c.loop-number.links c.add_steps.new.links
    (slice_get-get_or rows number no_row c.loop-number-test.true) c.loop-number.invariant c.in_ok-add_steps.ensures

pub returns : goal.returns
returns c =
    let g = c.args.grammar.now in
    let nullable = c.args.nullable.now in
    let links = c.loop-number.links in
    let number = c.loop-number.number in
    let P : ℕ → Type 0 = λ first. AreLinksOfRows (IsRowStep nullable) c.args.rows.now first number (length nullable) links in
    unit_steps_are g c.args.rows.now nullable c.requires.rows c.requires.nullable number links c.loop-number-test.false
    (subst P c.plain_count-first.ensures c.loop-number.invariant)
