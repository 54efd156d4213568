use Rattle.std.proofs.Common.{◌∙◌, ap}
use Rattle.cell_sets.specs.ListCells.{vector_items}
use Rattle.cell_sets.proofs.list_cell.ListCellCell.insert.Goals as goal

pub returns-clause-ok : goal.returns-clause-ok
returns-clause-ok c =
    let same = c.vector_of-items.ensures ∙ ap vector_items c.take.ensures.value ∙ c.self.view_is in
    rw same at c.insert_into-new.ensures.ok

pub returns-clause-new : goal.returns-clause-new
returns-clause-new c =
    let same = c.vector_of-items.ensures ∙ ap vector_items c.take.ensures.value ∙ c.self.view_is in
    rw same at c.insert_into-new.ensures.new
