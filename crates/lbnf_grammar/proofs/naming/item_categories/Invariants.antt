use Rattle.std.proofs.Common.{◌≡◌, take}
use Rattle.std.specs.List.{flat_map}
use Rattle.spec_lbnf.specs.declared.definition.RawRule.{RawRule}
use Rattle.spec_lbnf.specs.Expansion.{item_categories}
use Rattle.lbnf_grammar.proofs.naming.item_categories.Given as goal

-- the names are the categories among the items of the rules so far
abbrev pub invariant-loop-rule : goal.invariant-loop-rule
invariant-loop-rule l = l.names.items ≡ flat_map (λ (rule : RawRule). item_categories rule.items) (take l.rule-index l.rules)
