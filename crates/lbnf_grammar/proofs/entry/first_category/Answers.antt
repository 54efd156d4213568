use Rattle.std.proofs.Common.{◌≡◌, [], ◌∷◌, Some, slice_get, sym, ap, refl, ◌∙◌}
use Rattle.std.specs.Option.{option_map}
use Rattle.std.proofs.lemmas.Option.{slice_get_read}
use Rattle.spec_lbnf.specs.Expansion.{category_text, first_category}
use Rattle.lbnf_grammar.proofs.EntryLemmas.{first_rule_category, first_rule_category-append, rule_alone, first_at, first_past}
use Rattle.lbnf_grammar.proofs.entry.first_category.Goals as goal

pub returns-in-Some : goal.returns-in-Some
returns-in-Some c =
    let defs = c.args.defs.now in
    let def = c.def-item.result in
    let at : slice_get defs c.loop-def.def-index ≡ Some def = slice_get_read defs _ c.loop-def.def-index def refl c.loop-def-test.true c.def-item.is in
    let alone : option_map (λ cat. category_text cat.now) c.category_of_first.result ≡ first_rule_category (def ∷ []) = c.category_of_first.ensures ∙ ap first_category c.rules.ensures ∙ rule_alone c.def-item.result in
    sym (first_at first_rule_category first_rule_category-append defs c.loop-def.def-index def at c.loop-def.invariant (category_text c.in-Some.cat.now)
    (sym alone ∙ ap (option_map (λ cat. category_text cat.now)) c.in-Some.is))

pub loop-def-preserved : goal.loop-def-preserved
loop-def-preserved c =
    let defs = c.args.defs.now in
    let def = c.def-item.result in
    let at : slice_get defs c.loop-def.def-index ≡ Some def = slice_get_read defs _ c.loop-def.def-index def refl c.loop-def-test.true c.def-item.is in
    let alone : option_map (λ cat. category_text cat.now) c.category_of_first.result ≡ first_rule_category (def ∷ []) = c.category_of_first.ensures ∙ ap first_category c.rules.ensures ∙ rule_alone c.def-item.result in
    first_past first_rule_category first_rule_category-append defs c.loop-def.def-index def at c.loop-def.invariant
    (sym alone ∙ ap (option_map (λ cat. category_text cat.now)) c.in_default.is)
