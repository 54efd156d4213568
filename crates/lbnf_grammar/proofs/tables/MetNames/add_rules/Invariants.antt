use Rattle.std.proofs.Common.{◌≡◌, fold, take}
use Rattle.lbnf_grammar.specs.Tables.{with_rule}
use Rattle.lbnf_grammar.proofs.tables.MetNames.add_rules.Given as goal

-- the names have the rules so far
abbrev pub invariant-loop-rule : goal.invariant-loop-rule
invariant-loop-rule l = l.self ≡ fold (with_rule l.kinds) l.fn.self (take l.rule-index l.rules)
