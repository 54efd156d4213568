-- By the first tree and the others.
use Rattle.spec_trees.proofs.EndsLemmas.{none_before_none, none_before_cut, cut_is_least, ends_behind_are_least}
use Rattle.spec_trees.proofs.laws.ends_are_least_in_turn.Goals as goal

pub returns-clause-none : goal.returns-clause-none
returns-clause-none c = none_before_none

pub returns-clause-some : goal.returns-clause-some
returns-clause-some c = λ is_lesser rules kinds s rest i k j ends first. (
  (λ none. (cut_is_least is_lesser rules kinds s rest i k j ends none, ends_behind_are_least is_lesser rules kinds s rest i k j ends first none)),
  (λ both. none_before_cut is_lesser rules kinds s rest i k j ends both.0 both.1),
)
