-- By the length of the span, and then by categories that rules add.
use Rattle.spec_trees.proofs.TellingLemmas.{derived_or_not}
use Rattle.spec_trees.proofs.laws.derived_or_not.Goals as goal

pub returns : goal.returns
returns c = derived_or_not
