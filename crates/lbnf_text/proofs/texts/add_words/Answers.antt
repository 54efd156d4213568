use Rattle.std.proofs.Common.{◌≡◌, ◌++◌, List, ℕ, Bor, map, not, lit<, sym, ap, ◌∙◌, rules, tests}
use Rattle.std.proofs.lemmas.Iterator.Consumers.{YieldsList-at, YieldsList-from_filter, YieldsList-end}
use Rattle.std.proofs.lemmas.Iterator.Splits.{YieldsList-from_str_split}
use Rattle.std.proofs.lemmas.Simd.{map-map}
use Rattle.spec_lbnf.specs.declared.definition.RawItem.TheVariants.{Word}
use Rattle.spec_lbnf.specs.Words.{is_empty, words_in}
use Rattle.lbnf_text.proofs.texts.add_words.Goals as goal

pub returns : goal.returns
returns c =
    let seen = YieldsList-end
    (YieldsList-at c.into_iter-part-iterator.ensures.into_iter_gives
    (YieldsList-from_filter _ (λ part. not (is_empty part))
    (YieldsList-from_str_split 32 c.args.text.now (lit< tt) (cc) (cc) (cc))
    c.filter-part-items.ensures.closure (λ x r q k. search (rules, tests))))
    c.loop-part.yielded _ c.loop-part.yielded_by _ _ c.in-None.is c.next.ensures.steps in
    let (_, _, items) = c.loop-part.invariant in
    items
    ∙ ap (λ more. c.args.items.now ++ more)
    (sym (map-map Word (λ (part : Bor (List ℕ)). part.now) c.loop-part.yielded) ∙ ap (map Word) seen.0)
