-- By cases on how the texts may be cut.
use Rattle.spec_automata_cases.proofs.CaseLemmas.{states_of_a_word}
use Rattle.spec_automata_cases.proofs.states_of_a_word.Goals as goal

pub returns : goal.returns
returns c = states_of_a_word
