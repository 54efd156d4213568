use Rattle.std.proofs.Common.{◌≡◌, Some, slice_get, refl, ap, ◌∙◌}
use Rattle.std.proofs.lemmas.Option.{slice_get_read}
use Rattle.spec_lbnf.specs.Expansion.{names_in, token_in}
use Rattle.lbnf_grammar.specs.Numbering.{with_new_names}
use Rattle.lbnf_grammar.proofs.CheckingLemmas.{earlier_more}
use Rattle.lbnf_grammar.proofs.naming.add_token_names.Goals as goal

pub loop-def-preserved : goal.loop-def-preserved
loop-def-preserved c =
    let defs = c.args.defs.now in
    let def = c.def-item.result in
    let at : slice_get defs c.loop-def.def-index ≡ Some def = slice_get_read defs _ c.loop-def.def-index def refl c.loop-def-test.true c.def-item.is in
    earlier_more c.args.names.now defs c.loop-def.def-index def c.loop-def.names c.add_token_name.new.names at c.loop-def.invariant
    (c.in_ok-add_token_name.ensures ∙ ap (λ d. with_new_names c.loop-def.names (names_in (token_in d))) c.def.ensures)
