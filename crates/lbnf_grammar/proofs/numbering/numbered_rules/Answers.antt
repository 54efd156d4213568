use Rattle.std.proofs.Common.{◌≡◌, ◌++◌, Some, map, take, slice_get, refl, ap, sym, ◌∙◌}
use Rattle.std.proofs.lemmas.List.{map-append}
use Rattle.std.proofs.lemmas.Option.{slice_get_read}
use Rattle.spec_lbnf.specs.Expansion.{numbered_rule, rules_of, rules_of_def}
use Rattle.lbnf_grammar.specs.Tables.{shown}
use Rattle.lbnf_grammar.proofs.RuleLemmas.{rules_more}
use Rattle.lbnf_grammar.proofs.numbering.numbered_rules.Goals as goal

pub loop-def-preserved : goal.loop-def-preserved
loop-def-preserved c =
    let number = numbered_rule (shown c.args.tables.now) in
    let defs = c.args.defs.now in
    let def = c.def-item.result in
    let at : slice_get defs c.loop-def.def-index ≡ Some def = slice_get_read defs _ c.loop-def.def-index def refl c.loop-def-test.true c.def-item.is in
    c.in_ok-add_rules.ensures
    ∙ (λ i. c.loop-def.invariant i ++ map number (c.rules.ensures i))
    ∙ sym (map-append number (rules_of (take c.loop-def.def-index defs)) (rules_of_def def))
    ∙ ap (map number) (sym (rules_more defs c.loop-def.def-index def at))
