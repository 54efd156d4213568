use Rattle.std.proofs.Common.{◌≡◌, ℕ, ◌<◌, Some, slice_get, take}
use Rattle.spec_lbnf.specs.declared.definition.Def.{Def}
use Rattle.spec_lbnf.specs.Checks.{NamesKnown}
use Rattle.lbnf_grammar.specs.Checking.{used_names}
use Rattle.lbnf_grammar.proofs.checking.check_named_by.Given as goal

-- the definitions so far name known names alone, and these are the kinds among them
abbrev pub invariant-loop-number : goal.invariant-loop-number
invariant-loop-number l = record {
  known : (k : ℕ) (def : Def) → k < l.number → slice_get l.defs k ≡ Some def → NamesKnown l.defs def;
  used : l.used ≡ used_names l.kinds (take l.number l.defs);
}
