use Rattle.std.proofs.Common.{◌≡◌, fold, take}
use Rattle.spec_lbnf.specs.Expansion.{category_text}
use Rattle.lbnf_grammar.specs.Tables.{with_category, with_item}
use Rattle.lbnf_grammar.proofs.tables.MetNames.add_rule.Given as goal

-- the names have the rule's category and the items so far
abbrev pub invariant-loop-item : goal.invariant-loop-item
invariant-loop-item l =
    l.self ≡ fold (with_item l.kinds) (with_category l.fn.self (category_text l.fn.rule.cat)) (take l.item-index l.item-items)
