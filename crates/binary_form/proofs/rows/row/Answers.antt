use Rattle.std.proofs.Common.{length, slice_index_or, refl, ap, ◌≡◌, Some, slice_get, nat_eq, ◌+◌}
use Rattle.std.proofs.lemmas.Option.{slice_get_read}
use Rattle.spec_grammar.specs.declared.rule.Symbol.TheVariants.{Category}
use Rattle.std.proofs.lemmas.Option.{slice_get-get_or}
use Rattle.binary_form.proofs.RowLemmas.{row_is}
use Rattle.binary_form.proofs.rows.row.Goals as goal

pub returns : goal.returns
returns c =
    let g = c.args.grammar.now in
    let rule = c.index-rules-r.result in
    let items = c.as_slice-items.result.now in
    let is_rule : slice_get g.rules c.args.r ≡ Some rule =
    slice_get_read g.rules (length g.rules) c.args.r rule refl c.requires.rule
    (rw c.rules.ensures.items at c.index-rules-r.is) in
    row_is g c.args.r c.args.p rule (slice_index_or items c.args.p (Category 0)) _ c.rules.ensures.own_symbols is_rule
    (rw c.as_slice-items.ensures (slice_get-get_or rule.items c.args.p (Category 0) (c.requires.item rule is_rule)))
    c.number.ensures refl refl (ap (λ xs. nat_eq (c.args.p + 1) (length xs)) c.as_slice-items.ensures)
