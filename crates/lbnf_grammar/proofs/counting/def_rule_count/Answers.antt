use Rattle.std.proofs.Common.{length, ap, sym, ◌∙◌}
use Rattle.spec_lbnf.specs.Expansion.{rules_of_def}
use Rattle.lbnf_grammar.proofs.CountLemmas.{coercion_count}
use Rattle.lbnf_grammar.proofs.counting.def_rule_count.Goals as goal

pub returns-in-Coercions-clause-count : goal.returns-in-Coercions-clause-count
returns-in-Coercions-clause-count c =
    sym (ap (λ d. length (rules_of_def d)) c.in-Coercions.is ∙ coercion_count c.in-Coercions.name c.in-Coercions.levels)
