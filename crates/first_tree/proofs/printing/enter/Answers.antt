-- A leaf is written, or the opening of a rule's node.
use Rattle.first_tree.proofs.PrintingLemmas.{leaf_within, rule_within, leaf_goes, leaf_fails, rule_goes, rule_fails}
use Rattle.first_tree.proofs.printing.enter.Goals as goal

pub enter_leaf-requires-clause-place : goal.enter_leaf-requires-clause-place
enter_leaf-requires-clause-place g c =
    let (nodes, bytes, is) = c.requires.left in
    leaf_within c.args.grammar.now (c.args.text.now).bytes (c.args.text.now).tokens c.args.stack.now.items c.args.top
    c.args.node nodes bytes c.requires.some is c.in-None.is

pub rule-rule-requires : goal.rule-rule-requires
rule-rule-requires g c =
    let (nodes, bytes, is) = c.requires.left in
    rule_within c.args.grammar.now (c.args.text.now).bytes (c.args.text.now).tokens c.args.stack.now.items c.args.top
    c.args.node nodes bytes c.requires.some is c.in-Some.number c.in-Some.is

pub returns-in-None-clause-ok : goal.returns-in-None-clause-ok
returns-in-None-clause-ok g c =
    leaf_goes c.args.grammar.now (c.args.text.now).bytes (c.args.text.now).tokens c.args.stack.now.items c.args.top
    c.args.node c.requires.some c.in-None.is (g.K.Sink.written c.args.sink.now, c.args.gathered.now)
    (g.K.Sink.written c.enter_leaf.new.sink, c.enter_leaf.new.gathered) c.enter_leaf.result c.enter_leaf.ensures.ok c.enter_leaf.ensures.node

pub returns-in-None-clause-err : goal.returns-in-None-clause-err
returns-in-None-clause-err g c =
    leaf_fails c.args.grammar.now (c.args.text.now).bytes (c.args.text.now).tokens c.args.stack.now.items c.args.top
    c.args.node c.requires.some c.in-None.is (g.K.Sink.written c.args.sink.now, c.args.gathered.now)
    (g.K.Sink.written c.enter_leaf.new.sink, c.enter_leaf.new.gathered) c.enter_leaf.result c.enter_leaf.ensures.err

pub returns-in-Some-clause-ok : goal.returns-in-Some-clause-ok
returns-in-Some-clause-ok g c =
    rule_goes c.args.grammar.now (c.args.text.now).bytes (c.args.text.now).tokens c.args.stack.now.items c.args.top
    c.args.node c.requires.some c.in-Some.number c.rule-rule.result.now c.in-Some.is c.rule-rule.ensures
    (g.K.Sink.written c.args.sink.now, c.args.gathered.now) (g.K.Sink.written c.enter_rule.new.sink, c.enter_rule.new.gathered) c.enter_rule.new.stack.items
    c.enter_rule.result c.enter_rule.ensures.ok c.enter_rule.ensures.stack c.enter_rule.ensures.node

pub returns-in-Some-clause-err : goal.returns-in-Some-clause-err
returns-in-Some-clause-err g c =
    rule_fails c.args.grammar.now (c.args.text.now).bytes (c.args.text.now).tokens c.args.stack.now.items c.args.top
    c.args.node c.requires.some c.in-Some.number c.rule-rule.result.now c.in-Some.is c.rule-rule.ensures
    (g.K.Sink.written c.args.sink.now, c.args.gathered.now) (g.K.Sink.written c.enter_rule.new.sink, c.enter_rule.new.gathered)
    c.enter_rule.result c.enter_rule.ensures.err
