use Rattle.std.proofs.Common.{drop}
use Rattle.spec_lbnf.specs.Differences.{differences_of}
use Rattle.lbnf_text.proofs.DifferenceLemmas.{AreLookedAt}
use Rattle.lbnf_text.proofs.differences.look_at_defs.Given as goal

-- the differences of the definitions that are left come next
abbrev pub invariant-loop-def : goal.invariant-loop-def
invariant-loop-def l = AreLookedAt (differences_of l.defs) (differences_of (drop l.def-index l.defs)) 0 l.number
