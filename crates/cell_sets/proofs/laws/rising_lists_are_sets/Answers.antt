use Rattle.cell_sets.proofs.CellsLemmas.{rising_lists_are_sets}
use Rattle.cell_sets.proofs.laws.rising_lists_are_sets.Goals as goal

pub returns : goal.returns
returns c = rising_lists_are_sets
