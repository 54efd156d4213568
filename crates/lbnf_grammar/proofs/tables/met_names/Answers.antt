use Rattle.std.proofs.Common.{[], ap, ◌∙◌, ◌++◌}
use Rattle.std.specs.List.{flat_map}
use Rattle.std.proofs.lemmas.List.{take_all}
use Rattle.spec_lbnf.specs.Expansion.{met_categories, internal_category, rules_of, distinct}
use Rattle.lbnf_grammar.specs.Numbering.{with_new_names}
use Rattle.lbnf_grammar.proofs.TableLemmas.{internal_behind}
use Rattle.lbnf_grammar.proofs.tables.met_names.Goals as goal

pub returns-clause-categories : goal.returns-clause-categories
returns-clause-categories c =
    let kinds = c.args.kinds.now in
    let rules = rules_of c.args.defs.now in
    let start = with_new_names [] (flat_map (met_categories kinds) rules) in
    c.loop-def.invariant.categories
    ∙ ap (λ defs. with_new_names start (flat_map internal_category defs)) (take_all c.loop-def.def-index c.args.defs.now c.loop-def-test.false)
    ∙ internal_behind kinds rules c.args.defs.now
    ∙ ap (λ k. distinct (flat_map (met_categories k) rules ++ flat_map internal_category c.args.defs.now)) c.requires
