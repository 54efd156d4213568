use Rattle.std.proofs.Common.{drop}
use Rattle.spec_lexing.specs.Expressions.{expression_of}
use Rattle.spec_lbnf.specs.Differences.{differences_in}
use Rattle.lbnf_text.specs.BadDifferences.{differences_in_all}
use Rattle.lbnf_text.proofs.DifferenceLemmas.{AreLookedAt}
use Rattle.lbnf_text.proofs.differences.+look_at.Given as goal

abbrev pub decreases-look_at : goal.decreases-look_at
decreases-look_at l = goal.size-look_at l

-- the differences of the parts that are left come next
abbrev pub invariant-loop-part : goal.invariant-loop-part
invariant-loop-part l =
    AreLookedAt (differences_in (expression_of l.expr)) (differences_in_all (drop l.part-index l.part-items)) l.before l.number

abbrev pub invariant-loop-part-2 : goal.invariant-loop-part-2
invariant-loop-part-2 l =
    AreLookedAt (differences_in (expression_of l.expr)) (differences_in_all (drop l.part-index l.part-items)) l.before l.number
