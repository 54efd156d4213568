-- By the length of the span, and then by chains of steps.
use Rattle.spec_trees.proofs.TellingLemmas.{derived_or_not}
use Rattle.spec_trees.proofs.ExistenceLemmas.{derived_has_first}
use Rattle.spec_trees.proofs.laws.a_derived_span_has_a_first_tree.Goals as goal

pub returns : goal.returns
returns c = λ is_lesser order rules kinds. derived_has_first is_lesser order rules kinds (derived_or_not rules kinds)
