use Rattle.std.proofs.Common.{ap, ◌∙◌}
use Rattle.spec_lexing.specs.Predefined.{predefined_names}
use Rattle.spec_lbnf.specs.Expansion.{token_names}
use Rattle.lbnf_grammar.specs.Numbering.{with_new_names}
use Rattle.lbnf_grammar.proofs.DistinctLemmas.{distinct_in_turn}
use Rattle.lbnf_grammar.proofs.naming.kind_names.Goals as goal

pub returns : goal.returns
returns c =
    let defs = c.args.defs.now in
    c.in_ok-add_predefined_names.ensures
    ∙ ap (λ l. with_new_names l predefined_names) (c.in_ok-add_token_names.ensures ∙ ap (λ l. with_new_names l (token_names defs)) c.new-names.ensures)
    ∙ distinct_in_turn (token_names defs) predefined_names
