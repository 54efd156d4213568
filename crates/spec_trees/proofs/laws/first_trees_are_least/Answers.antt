-- Node by node; and back, since a first tree is there to compare with.
use Rattle.spec_trees.proofs.LeastTreeLemmas.{none_before_first, least_is_first}
use Rattle.spec_trees.proofs.laws.first_trees_are_least.Goals as goal

pub returns-clause-first : goal.returns-clause-first
returns-clause-first c = λ is_before rules kinds t other s i j. none_before_first rules kinds is_before t other s i j

pub returns-clause-least : goal.returns-clause-least
returns-clause-least c = least_is_first
