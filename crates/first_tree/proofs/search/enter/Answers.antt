-- By the leaf of a kind, and by the least rule of a category.
use Rattle.std.proofs.Common.{sym, subst}
use Rattle.spec_grammar.specs.declared.rule.Symbol.{Symbol}
use Rattle.spec_grammar.specs.declared.rule.Rule.{Rule}
use Rattle.first_tree.specs.Searching.{Enters}
use Rattle.tree_nodes.specs.TreeNodes.{leaf_node, rule_node}
use Rattle.first_tree.proofs.SearchLemmas.{part_of, enters_kind, enters_category}
use Rattle.first_tree.proofs.search.enter.Goals as goal

pub returns-in-Kind : goal.returns-in-Kind
returns-in-Kind g c =
    let rules = (c.args.bin.now).rules in
    let kinds = (c.args.chart.now).kinds in
    let part = c.args.part in
    let kept = c.args.kept.now.items in
    let P : Symbol → Type 0 = λ s. Enters rules kinds (part_of s part.first part.end) kept kept (leaf_node c.in-Kind.kind part.first part.end) in
    subst P (sym c.in-Kind.is) (enters_kind rules kinds c.in-Kind.kind part.first part.end kept)

pub returns-in_ok-keep-in-Category : goal.returns-in_ok-keep-in-Category
returns-in_ok-keep-in-Category g c =
    let rules = (c.args.bin.now).rules in
    let kinds = (c.args.chart.now).kinds in
    let part = c.args.part in
    let r = c.least_rule-rule.result in
    let least = c.least_rule-rule.ensures in
    let rule : Rule = least.0.0 in
    let is = least.0.1 in
    let keeps = rw c.requires.same at (c.in_ok-keep-in-Category.ensures kinds) in
    let P : Symbol → Type 0 = λ s. Enters rules kinds (part_of s part.first part.end) c.args.kept.now.items c.keep.new.kept.items (rule_node r part.first part.end c.item_count.result) in
    subst P (sym c.in-Category.is)
    (enters_category rules kinds c.in-Category.category part.first part.end r c.item_count.result rule
    c.args.kept.now.items c.keep.new.kept.items least is (c.item_count.ensures rule is) keeps)
