use Rattle.generator.proofs.GeneratedLemmas.{signs}
use Rattle.generator.proofs.laws.edits_replace_signs.Goals as goal

pub returns : goal.returns
returns c = signs
