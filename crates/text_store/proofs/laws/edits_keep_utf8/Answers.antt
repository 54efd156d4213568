-- By the lemma on edits.
use Rattle.text_store.proofs.EditLemmas.{keeps_utf8}
use Rattle.text_store.proofs.laws.edits_keep_utf8.Goals as goal

pub returns : goal.returns
returns c = keeps_utf8
