use Rattle.std.proofs.Common.{◌≡◌, [], ap, ◌∙◌, rules}
use Rattle.std.specs.List.{flat_map}
use Rattle.spec_lexing.specs.Predefined.{predefined_names}
use Rattle.spec_lbnf.specs.Expansion.{token_names}
use Rattle.spec_lbnf.specs.Checks.{own_categories}
use Rattle.lbnf_grammar.specs.Numbering.{with_new_names}
use Rattle.lbnf_grammar.proofs.DistinctLemmas.{distinct_behind}
use Rattle.lbnf_grammar.proofs.naming.known_names.Goals as goal

pub returns : goal.returns
returns c =
    let defs = c.args.defs.now in
    let names = c.as_slice.result.now in
    let items : names ≡ flat_map own_categories defs = search rules in
    let first : c.add_all.new.self ≡ with_new_names [] (flat_map own_categories defs)
    = c.in_ok-add_all.ensures ∙ ap (λ known. with_new_names known names) c.new-names.ensures ∙ ap (with_new_names []) items in
    c.in_ok-add_predefined_names.ensures
    ∙ ap (λ l. with_new_names l predefined_names) (c.in_ok-add_token_names.ensures ∙ ap (λ l. with_new_names l (token_names defs)) first)
    ∙ distinct_behind (flat_map own_categories defs) (token_names defs) predefined_names
