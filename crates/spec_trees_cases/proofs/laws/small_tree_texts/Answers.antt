-- By computation.
use Rattle.spec_trees_cases.proofs.TextCases.{small_tree_texts}
use Rattle.spec_trees_cases.proofs.laws.small_tree_texts.Goals as goal

pub returns : goal.returns
returns c = small_tree_texts
