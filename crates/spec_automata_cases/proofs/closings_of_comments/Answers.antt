-- By cases on how the texts may be cut.
use Rattle.spec_automata_cases.proofs.CaseLemmas.{closings_of_comments}
use Rattle.spec_automata_cases.proofs.closings_of_comments.Goals as goal

pub returns : goal.returns
returns c = closings_of_comments
