use Rattle.cell_sets.proofs.list_cell.ListCellCell.same.Goals as goal

pub returns : goal.returns
returns c = rw (c.as_slice.ensures.items, c.as_slice-2.ensures.items) at c.are_same.ensures
