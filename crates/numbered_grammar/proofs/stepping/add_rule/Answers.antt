use Rattle.std.proofs.Common.{take, slice_index_or}
use Rattle.std.proofs.lemmas.List.{take_more, take_all}
use Rattle.spec_grammar.specs.declared.rule.Symbol.TheVariants.{Category}
use Rattle.numbered_grammar.proofs.StepLinkLemmas.{items_more}
use Rattle.numbered_grammar.proofs.stepping.add_rule.Goals as goal

pub loop-item-preserved : goal.loop-item-preserved
loop-item-preserved c =
    let items = c.as_slice-items.result.now in
    let place = c.loop-item.item-index in
    rw (take_more items place (Category 0) c.loop-item-test.true)
    (items_more c.args.flags.now c.args.rule.now.category c.non_nullable_count-non_nullable.result c.args.links.now c.loop-item.links c.add_item.new.links (take place items) (slice_index_or items place (Category 0)) c.loop-item.invariant c.in_ok-add_item.ensures)

pub returns : goal.returns
returns c =
    let items = c.as_slice-items.result.now in
    let all = rw (take_all c.loop-item.item-index items c.loop-item-test.false, c.non_nullable_count-non_nullable.ensures) at c.loop-item.invariant in
    rw c.as_slice-items.ensures at all
