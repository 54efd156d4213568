use Rattle.std.proofs.Common.{◌≡◌, ◌++◌, map, take}
use Rattle.spec_lbnf.specs.Expansion.{numbered_rule}
use Rattle.lbnf_grammar.specs.Tables.{shown}
use Rattle.lbnf_grammar.proofs.numbering.add_rules.Given as goal

-- the rules so far are added
abbrev pub invariant-loop-rule : goal.invariant-loop-rule
invariant-loop-rule l =
    l.numbered.items ≡ l.fn.numbered.items ++ map (numbered_rule (shown l.tables)) (take l.rule-index l.rules)
