-- By cases on how the texts may be cut.
use Rattle.spec_automata_cases.proofs.CaseLemmas.{positions_of_words}
use Rattle.spec_automata_cases.proofs.positions_of_words.Goals as goal

pub returns : goal.returns
returns c = positions_of_words
