use Rattle.std.proofs.Common.{take, slice_index_or}
use Rattle.std.proofs.lemmas.List.{take_more}
use Rattle.spec_grammar.specs.declared.rule.Symbol.TheVariants.{Category}
use Rattle.numbered_grammar.proofs.RuleImplicationLemmas.{numbers_more}
use Rattle.numbered_grammar.proofs.nullable.category_numbers.Goals as goal

pub loop-item-preserved : goal.loop-item-preserved
loop-item-preserved c =
    let items = c.args.items.now in
    let place = c.loop-item.item-index in
    rw (take_more items place (Category 0) c.loop-item-test.true, c.in_ok-push-in-Category.ensures.items)
    (numbers_more (take place items) c.loop-item.numbers.items (slice_index_or items place (Category 0)) c.in-Category.c c.in-Category.is c.loop-item.invariant)
