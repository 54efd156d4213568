-- By the lemmas on trimmed edits.
use Rattle.text_store.proofs.TokenEditLemmas.{makes, some, one}
use Rattle.text_store.proofs.laws.one_trimmed_edit.Goals as goal

pub returns-clause-makes : goal.returns-clause-makes
returns-clause-makes c = makes

pub returns-clause-some : goal.returns-clause-some
returns-clause-some c = some

pub returns-clause-one : goal.returns-clause-one
returns-clause-one c = one
