use Rattle.std.proofs.Common.{◌≡◌, take}
use Rattle.spec_lbnf.specs.Expansion.{token_names}
use Rattle.lbnf_grammar.specs.Numbering.{with_new_names}
use Rattle.lbnf_grammar.proofs.naming.add_token_names.Given as goal

-- the names of the token definitions so far are added
abbrev pub invariant-loop-def : goal.invariant-loop-def
invariant-loop-def l = l.names ≡ with_new_names l.fn.names (token_names (take l.def-index l.defs))
