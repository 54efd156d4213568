use Rattle.std.proofs.Common.{◌≡◌, ℕ, ◌<◌, [], take}
use Rattle.spec_lbnf.specs.Expansion.{token_names}
use Rattle.spec_lbnf.specs.Checks.{TakesFree}
use Rattle.lbnf_grammar.specs.Numbering.{with_new_names}
use Rattle.lbnf_grammar.proofs.checking.check_own_names.Given as goal

-- the definitions so far repeat no name, and these are the names of the token definitions among them
abbrev pub invariant-loop-def : goal.invariant-loop-def
invariant-loop-def l = record {
  earlier : l.earlier ≡ with_new_names [] (token_names (take l.def-index l.defs));
  free : (k : ℕ) → k < l.def-index → TakesFree l.defs k;
}
