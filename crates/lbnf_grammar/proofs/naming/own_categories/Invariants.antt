use Rattle.std.proofs.Common.{◌≡◌, ◌++◌, map, take}
use Rattle.spec_lbnf.specs.declared.definition.RawRule.{RawRule}
use Rattle.spec_lbnf.specs.Expansion.{category_text, internal_category}
use Rattle.lbnf_grammar.proofs.naming.own_categories.Given as goal

-- the names are the internal category and those of the rules so far
abbrev pub invariant-loop-rule : goal.invariant-loop-rule
invariant-loop-rule l =
    l.names.items ≡ internal_category l.def ++ map (λ (rule : RawRule). category_text rule.cat) (take l.rule-index l.rule-items)
