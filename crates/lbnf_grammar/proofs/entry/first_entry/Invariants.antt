use Rattle.std.proofs.Common.{◌≡◌, None, take}
use Rattle.spec_lbnf.specs.Expansion.{first_entry}
use Rattle.lbnf_grammar.proofs.entry.first_entry.Given as goal

-- no definition so far has entry points
abbrev pub invariant-loop-def : goal.invariant-loop-def
invariant-loop-def l = first_entry (take l.def-index l.defs) ≡ None
