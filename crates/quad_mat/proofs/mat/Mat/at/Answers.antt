-- By the row with the cell, and the empty rows.
use Rattle.std.proofs.Common.{map, ◌∙◌}
use Rattle.quad_mat.proofs.MatLemmas.{single_rows}
use Rattle.quad_mat.proofs.mat.Mat.at.Goals as goal

pub packed-requires-clause-different : goal.packed-requires-clause-different
packed-requires-clause-different g c κs within = c.in_ok-number.ensures.different.each c.in_ok-room.ensures.different

pub returns : goal.returns
returns g c =
    let symbols = g.C.Cell.symbols in
    let room = c.number_of_single.new.room in
    let number = c.in_ok-number.ensures in
    let columns = number.columns ∙ c.in_ok-room.ensures.columns in
    single_rows c.args.rows c.args.columns c.args.i c.args.j (symbols c.args.cell) (map symbols room.cells.items) room.rows
    room.unions c.in_ok-numbers.numbers c.in_ok-number.number c.in_ok-mat.mat c.requires.row
    c.in_ok-numbers.ensures.count c.in_ok-numbers.ensures.zero (rw columns at number.room) number.row
    (rw (columns, c.set.ensures) at c.in_ok-mat.ensures)
