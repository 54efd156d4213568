use Rattle.std.proofs.Common.{◌+◌, ℕ, IsFalse, length, not, slice_index_or, subst, arith}
use Rattle.std.proofs.lemmas.Option.{slice_get-get_or}
use Rattle.binary_form.specs.RowLinks.{IsRowPartner, AreLinksOfRows}
use Rattle.number_graph.proofs.LinkLemmas.{adds_tested}
use Rattle.binary_form.proofs.RowLemmas.{no_row, row_within}
use Rattle.binary_form.proofs.StepLemmas.{links_of_more, not_tested}
use Rattle.binary_form.proofs.LeftSideLemmas.{partner_links_are}
use Rattle.binary_form.proofs.left_sides.partner_links.Goals as goal

pub add_if-requires : goal.add_if-requires
add_if-requires c =
    let rows = c.args.rows.now in
    let number = c.loop-number.number in
    let row = slice_index_or rows number no_row in
    let within = row_within c.args.grammar.now rows c.requires.rows number row
    (slice_get-get_or rows number no_row c.loop-number-test.true) in
    λ goes_on. omega (arith, within.next_below ((not_tested row.is_last).0 goes_on), c.loop-number.invariant.size, c.plain_count-first.ensures, c.requires.rows.count)

pub loop-number-preserved : goal.loop-number-preserved
loop-number-preserved c =
    let rows = c.args.rows.now in
    let first = c.plain_count-first.result in
    let number = c.loop-number.number in
    let row = slice_index_or rows number no_row in
    links_of_more IsRowPartner rows first (first + length rows) number row c.loop-number.links c.add_if.new.self
    (slice_get-get_or rows number no_row c.loop-number-test.true) c.loop-number.invariant
    (adds_tested c.loop-number.links c.add_if.new.self (first + number + 1) row.item (IsFalse row.is_last) (not row.is_last)
    (not_tested row.is_last) c.in_ok-add_if.ensures.ok)

pub returns : goal.returns
returns c =
    let rows = c.args.rows.now in
    let links = c.loop-number.links in
    let number = c.loop-number.number in
    let P : ℕ → Type 0 = λ first. AreLinksOfRows IsRowPartner rows first number (first + length rows) links in
    partner_links_are c.args.grammar.now rows c.requires.rows number links c.loop-number-test.false
    (subst P c.plain_count-first.ensures c.loop-number.invariant)
