use Rattle.cell_sets.proofs.WordsLemmas.{symbols_rise}
use Rattle.cell_sets.proofs.bits.BitsCell.common.Goals as goal

pub returns-clause-rising : goal.returns-clause-rising
returns-clause-rising g c = symbols_rise _
