-- By cases on how the texts may be cut.
use Rattle.spec_automata_cases.proofs.CaseLemmas.{counts_of_positions}
use Rattle.spec_automata_cases.proofs.counts_of_positions.Goals as goal

pub returns : goal.returns
returns c = counts_of_positions
