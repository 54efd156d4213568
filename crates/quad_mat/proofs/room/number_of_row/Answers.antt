-- One row more.
use Rattle.std.proofs.Common.{map}
use Rattle.quad_mat.proofs.RoomLemmas.{row_pushed}
use Rattle.quad_mat.proofs.room.number_of_row.Goals as goal

pub returns-clause-grows : goal.returns-clause-grows
returns-clause-grows g c =
    let room = c.args.room.now in
    row_pushed room.columns (map g.C.Cell.symbols room.cells.items) room.rows room.unions c.requires.room c.args.row
    c.push.new.self c.requires.row c.in_ok-push.ensures.ok
