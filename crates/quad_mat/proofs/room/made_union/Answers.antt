-- The union that is made.
use Rattle.std.proofs.Common.{map}
use Rattle.quad_mat.proofs.EntryLemmas.{grows_then}
use Rattle.quad_mat.proofs.RoomLemmas.{union_made, room_cells, room_tried}
use Rattle.quad_mat.proofs.room.made_union.Goals as goal

pub merged-requires-clause-left : goal.merged-requires-clause-left
merged-requires-clause-left g c κs within =
    rw (c.row_at-left.ensures, c.as_slice-rows.ensures) (c.requires.room.each c.args.a c.requires.left)

pub merged-requires-clause-right : goal.merged-requires-clause-right
merged-requires-clause-right g c κs within =
    rw (c.row_at-right.ensures, c.as_slice-rows.ensures) (c.requires.room.each c.args.b c.requires.right)

pub number_of_row-requires-clause-room : goal.number_of_row-requires-clause-room
number_of_row-requires-clause-room g c κs within =
    let room = c.args.room.now in
    room_cells room.columns (map g.C.Cell.symbols room.cells.items) room.rows room.unions c.requires.room _
    c.in_ok-row.ensures.grows c.in_ok-row.ensures.full

pub returns-clause-union : goal.returns-clause-union
returns-clause-union g c =
    let symbols = g.C.Cell.symbols in
    let room = c.args.room.now in
    let grows = c.in_ok-both.ensures.grows in
    union_made room.columns (map symbols room.cells.items) room.rows room.unions c.requires.room
    (map symbols c.merged.new.cells.items) (map symbols c.number_of_row.new.room.cells.items) c.number_of_row.new.room.rows
    c.args.a c.args.b c.in_ok-both.both c.row_at-left.result.now c.row_at-right.result.now c.in_ok-row.row
    c.requires.left c.requires.right
    (rw c.as_slice-rows.ensures at c.row_at-left.ensures) (rw c.as_slice-rows.ensures at c.row_at-right.ensures)
    c.in_ok-row.ensures grows.cells_grow grows.rows_grow c.in_ok-both.ensures.row

pub returns-clause-grows : goal.returns-clause-grows
returns-clause-grows g c =
    let symbols = g.C.Cell.symbols in
    let room = c.args.room.now in
    let new = c.number_of_row.new.room in
    let grows = c.in_ok-both.ensures.grows in
    let union = returns-clause-union g c in
    record {
      cells_grow = grows_then (map symbols room.cells.items) (map symbols c.merged.new.cells.items)
          (map symbols new.cells.items) c.in_ok-row.ensures.grows grows.cells_grow;
      rows_grow = grows.rows_grow;
      room = room_tried room.columns (map symbols new.cells.items) new.rows new.unions grows.room c.push.result
          c.push.new.self _ union c.push.ensures.ok c.push.ensures.err;
    }
