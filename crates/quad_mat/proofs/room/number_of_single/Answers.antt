-- The row with the cell's number.
use Rattle.std.proofs.Common.{map, refl}
use Rattle.quad_mat.proofs.RoomLemmas.{room_cells, single_has}
use Rattle.quad_mat.proofs.room.number_of_single.Goals as goal

pub number_of_row-requires-clause-room : goal.number_of_row-requires-clause-room
number_of_row-requires-clause-room g c κs within =
    let room = c.args.room.now in
    room_cells room.columns (map g.C.Cell.symbols room.cells.items) room.rows room.unions c.requires.room _
    c.in_ok-number.ensures.number.grows c.in_ok-number.ensures.number.full

pub returns-clause-row : goal.returns-clause-row
returns-clause-row g c =
    let symbols = g.C.Cell.symbols in
    rw c.in_ok-n.ensures.cells
    (single_has (map symbols c.number_from.new.cells.items) c.number_of_row.new.room.rows _ (symbols c.args.cell)
    c.in_ok-n.n c.in_ok-number.ensures.number.same
    (rw (c.in_ok-push.ensures.ok, c.new-row.ensures) at c.in_ok-n.ensures.row))

pub returns-clause-different : goal.returns-clause-different
returns-clause-different g c = rw c.in_ok-n.ensures.cells (c.in_ok-number.ensures.different refl)
