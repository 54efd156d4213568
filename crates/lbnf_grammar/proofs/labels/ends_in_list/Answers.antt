use Rattle.std.proofs.Common.{take, refl}
use Rattle.std.proofs.lemmas.Option.{slice_get_read}
use Rattle.spec_lbnf.specs.Expansion.{categories_in}
use Rattle.lbnf_grammar.proofs.LabelLemmas.{categories_more}
use Rattle.lbnf_grammar.proofs.labels.ends_in_list.Goals as goal

pub loop-item-preserved : goal.loop-item-preserved
loop-item-preserved c =
    let items = c.args.items.now in
    let item = c.item-item.result in
    let at = slice_get_read items _ c.loop-item.item-index item refl c.loop-item-test.true c.item-item.is in
    rw (categories_more items c.loop-item.item-index item at) (c.is_list_or-is_list.ensures (categories_in (take c.loop-item.item-index items)) c.loop-item.invariant)
