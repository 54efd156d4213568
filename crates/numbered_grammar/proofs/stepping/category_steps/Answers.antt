use Rattle.std.proofs.Common.{◌≡◌, length, refl, arith}
use Rattle.std.proofs.lemmas.Option.{slice_get_read}
use Rattle.numbered_grammar.proofs.StepLinkLemmas.{rules_more, steps_are}
use Rattle.numbered_grammar.proofs.stepping.category_steps.Goals as goal

pub loop-rule-preserved : goal.loop-rule-preserved
loop-rule-preserved c =
    let rules = c.args.parts.now.rules in
    let read = rw c.rules-rule-items.ensures.items at c.rule-item.is in
    let before = rw c.rules-rule-items.ensures.items at c.loop-rule-test.true in
    let is = slice_get_read rules (length rules) c.loop-rule.rule-index c.rule-item.result refl before read in
    rules_more c.args.nullable.now rules (length c.args.parts.now.categories) c.loop-rule.rule-index c.rule-item.result
    c.loop-rule.links c.add_rule.new.links is c.loop-rule.invariant c.in_ok-add_rule.ensures

pub returns-clause-steps : goal.returns-clause-steps
returns-clause-steps c =
    let rules = c.args.parts.now.rules in
    let past = rw c.rules-rule-items.ensures.items at c.loop-rule-test.false in
    let end = rw c.rules-rule-items.ensures.items at c.loop-rule.auto.rule-index-end in
    let all : c.loop-rule.rule-index ≡ length rules = omega (arith, past, end) in
    steps_are c.args.parts.now c.args.nullable.now c.requires c.rules-rule-items.ensures.own_symbols c.loop-rule.links (rw all at c.loop-rule.invariant)
