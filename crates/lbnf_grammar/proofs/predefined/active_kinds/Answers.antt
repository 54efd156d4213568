use Rattle.std.proofs.Common.{◌≡◌, IfOk, map, ap, subst, ◌∙◌}
use Rattle.spec_lbnf.specs.Expansion.{token_names}
use Rattle.lbnf_grammar.specs.Numbering.{with_new_names}
use Rattle.lbnf_grammar.specs.PredefinedKinds.{predefined_token}
use Rattle.lbnf_grammar.proofs.PredefinedLemmas.{active_are}
use Rattle.lbnf_grammar.proofs.predefined.active_kinds.Goals as goal

pub returns : goal.returns
returns c =
    let defs = c.args.defs.now in
    let takes = c.in_ok-add_token_names.ensures ∙ ap (λ l. with_new_names l (token_names defs)) c.new-taken.ensures in
    subst (λ l. IfOk c.active_by.result (λ active. map predefined_token active.items ≡ l))
    (active_are defs c.args.used.now c.add_token_names.new.names c.requires takes) c.active_by.ensures
