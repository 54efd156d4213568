use Rattle.std.proofs.Common.{◌≡◌, fold, take}
use Rattle.spec_lbnf.specs.Expansion.{rules_of}
use Rattle.lbnf_grammar.specs.Tables.{with_rule}
use Rattle.lbnf_grammar.proofs.TableLemmas.{no_names}
use Rattle.lbnf_grammar.proofs.tables.rule_names.Given as goal

-- the names have the rules of the definitions so far
abbrev pub invariant-loop-def : goal.invariant-loop-def
invariant-loop-def l = l.met ≡ fold (with_rule l.kinds) no_names (rules_of (take l.def-index l.defs))
