use Rattle.std.proofs.Common.{◌≡◌, take}
use Rattle.lbnf_grammar.proofs.expanded_def.expanded_defs.Given as goal

-- the definitions so far have their rules
abbrev pub invariant-loop-def : goal.invariant-loop-def
invariant-loop-def l = l.expanded.items ≡ take l.def-index l.defs
