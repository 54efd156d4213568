-- By the entries of one row.
use Rattle.cell_sets.proofs.GridLemmas.{entry-grid_of}
use Rattle.cell_sets.proofs.laws.entries_are_values.Goals as goal

pub returns : goal.returns
returns c = entry-grid_of
