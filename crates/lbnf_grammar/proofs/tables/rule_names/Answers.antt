use Rattle.std.proofs.Common.{◌≡◌, Some, fold, take, slice_get, refl, ap, sym, ◌∙◌}
use Rattle.std.proofs.lemmas.List.Sums.{fold-append}
use Rattle.std.proofs.lemmas.Option.{slice_get_read}
use Rattle.spec_lbnf.specs.Expansion.{rules_of, rules_of_def}
use Rattle.lbnf_grammar.specs.declared.tables.MetNames.{MetNames}
use Rattle.lbnf_grammar.specs.Tables.{with_rule}
use Rattle.lbnf_grammar.proofs.RuleLemmas.{rules_more}
use Rattle.lbnf_grammar.proofs.TableLemmas.{no_names, all_gathered, met_are, words_are}
use Rattle.lbnf_grammar.proofs.tables.rule_names.Goals as goal

pub loop-def-preserved : goal.loop-def-preserved
loop-def-preserved c =
    let gather = with_rule c.args.kinds.now in
    let defs = c.args.defs.now in
    let def = c.def-item.result in
    let at : slice_get defs c.loop-def.def-index ≡ Some def = slice_get_read defs _ c.loop-def.def-index def refl c.loop-def-test.true c.def-item.is in
    c.in_ok-add_rules.ensures ∙ ap (fold gather c.loop-def.met) c.rules.ensures
    ∙ ap (λ met. fold gather met (rules_of_def def)) c.loop-def.invariant
    ∙ sym (fold-append gather no_names (rules_of (take c.loop-def.def-index defs)) (rules_of_def def))
    ∙ ap (fold gather no_names) (sym (rules_more defs c.loop-def.def-index def at))

pub returns-clause-categories : goal.returns-clause-categories
returns-clause-categories c =
    let kinds = c.args.kinds.now in
    let defs = c.args.defs.now in
    let all = all_gathered kinds c.loop-def.met defs c.loop-def.def-index c.loop-def-test.false c.loop-def.invariant in
    ap (λ (met : MetNames). met.categories) all ∙ met_are kinds (rules_of defs)

pub returns-clause-words : goal.returns-clause-words
returns-clause-words c =
    let kinds = c.args.kinds.now in
    let defs = c.args.defs.now in
    let all = all_gathered kinds c.loop-def.met defs c.loop-def.def-index c.loop-def-test.false c.loop-def.invariant in
    ap (λ (met : MetNames). met.words) all ∙ words_are kinds (rules_of defs)
