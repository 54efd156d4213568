use Rattle.cell_sets.proofs.list_cell.ListCellCell.next_from.Goals as goal

pub returns : goal.returns
returns c = rw c.as_slice.ensures.items at c.next_in.ensures
