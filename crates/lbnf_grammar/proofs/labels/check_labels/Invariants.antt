use Rattle.std.proofs.Common.{◌≡◌, ℕ, ◌<◌, Some, slice_get}
use Rattle.spec_lbnf.specs.declared.definition.Def.{Def}
use Rattle.spec_lbnf.specs.Checks.{IsWellLabelled}
use Rattle.lbnf_grammar.proofs.labels.check_labels.Given as goal

-- the definitions so far are well labelled
abbrev pub invariant-loop-number : goal.invariant-loop-number
invariant-loop-number l = (k : ℕ) (def : Def) → k < l.number → slice_get l.defs k ≡ Some def → IsWellLabelled def
