-- What is kept last has an item left, which is entered.
use Rattle.first_tree.proofs.RestLemmas.{last_rule, last_item, last_derives}
use Rattle.first_tree.proofs.SearchLemmas.{gives_next}
use Rattle.first_tree.proofs.search.next_node.Goals as goal

pub rule-rule-requires : goal.rule-rule-requires
rule-rule-requires g c =
    rw c.requires.same
    (last_rule (c.args.bin.now).rules (c.args.chart.now).kinds c.args.kept.now.items c.pop.new.self.items c.in-Some.rest
    c.requires.kept.0 c.in-Some.ensures.items c.requires.kept.1)

pub next_item-symbol-requires-clause-place : goal.next_item-symbol-requires-clause-place
next_item-symbol-requires-clause-place g c κs within =
    last_item (c.args.bin.now).rules (c.args.chart.now).kinds c.args.kept.now.items c.pop.new.self.items c.in-Some.rest
    c.requires.kept.0 c.in-Some.ensures.items c.requires.kept.1 c.rule-rule.result.now (rw c.requires.same at c.rule-rule.ensures)

pub least_cut-place-requires-clause-derives : goal.least_cut-place-requires-clause-derives
least_cut-place-requires-clause-derives g c κs within =
    last_derives (c.args.bin.now).rules (c.args.chart.now).kinds c.args.kept.now.items c.pop.new.self.items c.in-Some.rest
    c.requires.kept.0 c.in-Some.ensures.items c.requires.kept.1 c.rule-rule.result.now (rw c.requires.same at c.rule-rule.ensures)

pub keep-requires : goal.keep-requires
keep-requires g c =
    rw (c.rest_behind.ensures, c.requires.same)
    (last_rule (c.args.bin.now).rules (c.args.chart.now).kinds c.args.kept.now.items c.pop.new.self.items c.in-Some.rest
    c.requires.kept.0 c.in-Some.ensures.items c.requires.kept.1)

pub returns : goal.returns
returns g c =
    let kinds = (c.args.chart.now).kinds in
    let is = rw c.requires.same at c.rule-rule.ensures in
    let keeps = rw (c.rest_behind.ensures, c.requires.same) at (c.in_ok-keep.ensures kinds) in
    gives_next (c.args.bin.now).rules kinds c.args.kept.now.items c.pop.new.self.items c.keep.new.kept.items
    c.enter.new.kept.items c.in-Some.rest c.rule-rule.result.now c.next_item-symbol.result c.least_cut-place.result
    c.in_ok-node.node c.in-Some.ensures.items is c.next_item-symbol.ensures.item c.least_cut-place.ensures keeps
    c.in_ok-node.ensures
