use Rattle.std.proofs.Common.{◌≡◌, ◌∷◌, [], ◌++◌, Some, slice_get, ap, sym, refl, ◌∙◌, append_assoc, take}
use Rattle.std.proofs.lemmas.Option.{slice_get_read}
use Rattle.spec_lbnf.specs.Expansion.{item_categories}
use Rattle.lbnf_grammar.proofs.CheckingLemmas.{item_categories_more}
use Rattle.lbnf_grammar.proofs.naming.add_items.Goals as goal

pub loop-item-preserved : goal.loop-item-preserved
loop-item-preserved c =
    let items = c.args.items.now in
    let item = c.item-item.result in
    let at : slice_get items c.loop-item.item-index ≡ Some item = slice_get_read items _ c.loop-item.item-index item refl c.loop-item-test.true c.item-item.is in
    c.in_ok-add_item.ensures ∙ ap (λ names. names ++ item_categories (item ∷ [])) c.loop-item.invariant
    ∙ append_assoc c.args.names.now.items (item_categories (take c.loop-item.item-index items)) (item_categories (item ∷ []))
    ∙ ap (λ more. c.args.names.now.items ++ more) (sym (item_categories_more items c.loop-item.item-index item at))
