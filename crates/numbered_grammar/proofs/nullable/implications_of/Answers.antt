use Rattle.std.proofs.Common.{length, refl}
use Rattle.std.proofs.lemmas.Option.{slice_get_read}
use Rattle.numbered_grammar.proofs.RuleImplicationLemmas.{rules_more}
use Rattle.numbered_grammar.proofs.nullable.implications_of.Goals as goal

pub loop-rule-preserved : goal.loop-rule-preserved
loop-rule-preserved c =
    let rules = c.args.rules.now in
    let place = c.loop-rule.rule-index in
    let is = slice_get_read rules (length rules) place c.rule-item.result refl c.loop-rule-test.true c.rule-item.is in
    rules_more rules place c.rule-item.result c.loop-rule.implications c.add_rule.new.implications is c.loop-rule.invariant c.in_ok-add_rule.ensures
