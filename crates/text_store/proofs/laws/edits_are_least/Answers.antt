-- By the lemmas on trimmed edits.
use Rattle.text_store.proofs.TokenEditLemmas.{least, leaves}
use Rattle.text_store.proofs.laws.edits_are_least.Goals as goal

pub returns-clause-least : goal.returns-clause-least
returns-clause-least c old new edit other = least old new edit other

pub returns-clause-same : goal.returns-clause-same
returns-clause-same c = leaves
