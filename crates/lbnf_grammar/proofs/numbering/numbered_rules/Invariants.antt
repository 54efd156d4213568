use Rattle.std.proofs.Common.{◌≡◌, map, take}
use Rattle.spec_lbnf.specs.Expansion.{numbered_rule, rules_of}
use Rattle.lbnf_grammar.specs.Tables.{shown}
use Rattle.lbnf_grammar.proofs.numbering.numbered_rules.Given as goal

-- the rules of the definitions so far are numbered
abbrev pub invariant-loop-def : goal.invariant-loop-def
invariant-loop-def l =
    l.numbered.items ≡ map (numbered_rule (shown l.tables)) (rules_of (take l.def-index l.defs))
