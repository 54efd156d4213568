use Rattle.std.proofs.Common.{◌≡◌, [], ◌∷◌, Some, slice_get, sym, ap, refl, ◌∙◌}
use Rattle.std.specs.Option.{option_map}
use Rattle.std.proofs.lemmas.Option.{slice_get_read}
use Rattle.spec_lbnf.specs.Expansion.{category_text, first_entry}
use Rattle.lbnf_grammar.proofs.EntryLemmas.{first_entry-append, first_at, first_past}
use Rattle.lbnf_grammar.proofs.entry.first_entry.Goals as goal

pub returns-in-Some : goal.returns-in-Some
returns-in-Some c =
    let defs = c.args.defs.now in
    let def = c.def-item.result in
    let at : slice_get defs c.loop-def.def-index ≡ Some def = slice_get_read defs _ c.loop-def.def-index def refl c.loop-def-test.true c.def-item.is in
    let alone : option_map (λ cat. category_text cat.now) c.entry_of.result ≡ first_entry (def ∷ []) = c.entry_of.ensures ∙ ap (λ def. first_entry (def ∷ [])) c.def.ensures in
    sym (first_at first_entry first_entry-append defs c.loop-def.def-index def at c.loop-def.invariant (category_text c.in-Some.cat.now)
    (sym alone ∙ ap (option_map (λ cat. category_text cat.now)) c.in-Some.is))

pub loop-def-preserved : goal.loop-def-preserved
loop-def-preserved c =
    let defs = c.args.defs.now in
    let def = c.def-item.result in
    let at : slice_get defs c.loop-def.def-index ≡ Some def = slice_get_read defs _ c.loop-def.def-index def refl c.loop-def-test.true c.def-item.is in
    let alone : option_map (λ cat. category_text cat.now) c.entry_of.result ≡ first_entry (def ∷ []) = c.entry_of.ensures ∙ ap (λ def. first_entry (def ∷ [])) c.def.ensures in
    first_past first_entry first_entry-append defs c.loop-def.def-index def at c.loop-def.invariant
    (sym alone ∙ ap (option_map (λ cat. category_text cat.now)) c.in_default.is)
