use Rattle.std.proofs.Common.{subst, sym, ◌∙◌}
use Rattle.spec_lbnf.specs.Limits.{AreFewAndSmall}
use Rattle.lbnf_grammar.specs.Grammars.{PassFirstChecks, Expands}
use Rattle.lbnf_grammar.proofs.expanding.expand_defs.Goals as goal

pub expand_by-requires-clause-limits : goal.expand_by-requires-clause-limits
expand_by-requires-clause-limits c = subst AreFewAndSmall (sym (c.as_slice.ensures.value ∙ c.in-Ok.ensures)) c.requires

pub expand_by-requires-clause-first : goal.expand_by-requires-clause-first
expand_by-requires-clause-first c =
    subst PassFirstChecks (sym (c.as_slice.ensures.value ∙ c.in-Ok.ensures)) (c.in_ok-check_labels.ensures, c.in_ok-check_count.ensures)

pub returns : goal.returns
returns c = subst (λ defs. Expands defs c.expand_by.result) (c.as_slice.ensures.value ∙ c.in-Ok.ensures) c.expand_by.ensures
