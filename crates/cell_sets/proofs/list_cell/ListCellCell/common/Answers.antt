use Rattle.cell_sets.proofs.list_cell.ListCellCell.common.Goals as goal

pub returns-clause-ok : goal.returns-clause-ok
returns-clause-ok c = rw (c.as_slice.ensures.items, c.as_slice-2.ensures.items) at c.in_ok-common.ensures.ok
