use Rattle.std.proofs.Common.{◌≡◌, None, take}
use Rattle.lbnf_grammar.proofs.EntryLemmas.{first_rule_category}
use Rattle.lbnf_grammar.proofs.entry.first_category.Given as goal

-- no definition so far gives a rule
abbrev pub invariant-loop-def : goal.invariant-loop-def
invariant-loop-def l = first_rule_category (take l.def-index l.defs) ≡ None
