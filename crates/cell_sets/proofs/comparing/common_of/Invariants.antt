use Rattle.cell_sets.proofs.CommonLemmas.{IsCommonSoFar}
use Rattle.cell_sets.proofs.comparing.common_of.Given as goal

abbrev pub invariant-loop-i : goal.invariant-loop-i
invariant-loop-i l = IsCommonSoFar l.left l.right (l.common).items l.i
