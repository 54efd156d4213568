-- A row that comes into the room.
use Rattle.std.proofs.Common.{map}
use Rattle.quad_mat.proofs.RoomLemmas.{room_cells}
use Rattle.quad_mat.proofs.LoadingLemmas.{copied_grows, known_grows, known_row, moved_in_room}
use Rattle.quad_mat.proofs.EntryLemmas.{grows_then}
use Rattle.quad_mat.specs.Rows.{row_of}
use Rattle.quad_mat.proofs.loading.brought_row.Goals as goal

pub moved_row-requires-clause-rising : goal.moved_row-requires-clause-rising
moved_row-requires-clause-rising g c κs within =
    rw (c.row_at-row.ensures, c.as_slice-rows.ensures) (c.requires.body.rising c.args.n c.requires.within)

pub moved_row-requires-clause-cells : goal.moved_row-requires-clause-cells
moved_row-requires-clause-cells g c κs within =
    rw (c.row_at-row.ensures, c.as_slice-rows.ensures, c.as_slice-source.ensures.value)
    (c.requires.body.known c.args.n c.requires.within)

pub number_of_row-requires-clause-room : goal.number_of_row-requires-clause-room
number_of_row-requires-clause-room g c κs within =
    let room = c.args.room.now in
    room_cells room.columns (map g.C.Cell.symbols room.cells.items) room.rows room.unions c.requires.room _
    c.in_ok-made.ensures.grows c.in_ok-made.ensures.full

pub returns-clause-different : goal.returns-clause-different
returns-clause-different g c = rw c.in_ok-number.ensures.cells c.in_ok-made.ensures.different

pub returns-clause-row : goal.returns-clause-row
returns-clause-row g c =
    let symbols = g.C.Cell.symbols in
    moved_in_room c.args.window c.args.room.now.columns (map symbols c.args.body.now.cells.items)
    (map symbols c.args.room.now.cells.items) (map symbols c.moved_row.new.cells.items)
    (map symbols c.number_of_row.new.room.cells.items) c.moved_row.new.known (row_of c.args.body.now.rows c.args.n)
    c.in_ok-made.made c.number_of_row.new.room.rows c.in_ok-number.number
    (rw (c.row_at-row.ensures, c.as_slice-rows.ensures, c.as_slice-source.ensures.value) at c.in_ok-made.ensures)
    c.in_ok-number.ensures.grows.cells_grow c.in_ok-number.ensures.row

pub returns-clause-known : goal.returns-clause-known
returns-clause-known g c =
    let symbols = g.C.Cell.symbols in
    let room = c.args.room.now in
    let new = c.number_of_row.new.room in
    let source = map symbols c.args.body.now.cells.items in
    let grows = c.in_ok-number.ensures.grows in
    let made = rw c.as_slice-source.ensures.value at c.in_ok-made.ensures in
    let copied =
    copied_grows source (map symbols c.moved_row.new.cells.items) (map symbols new.cells.items) c.moved_row.new.known
    grows.cells_grow made.copied in
    let known =
    known_grows c.args.window source c.args.body.now.rows room.columns (map symbols room.cells.items)
    (map symbols new.cells.items) room.rows new.rows room.unions c.args.known.now.cells c.moved_row.new.known
    c.args.known.now.rows c.requires.room
    (grows_then (map symbols room.cells.items) (map symbols c.moved_row.new.cells.items) (map symbols new.cells.items)
    made.grows grows.cells_grow)
    grows.rows_grow copied c.requires.known in
    rw c.set.ensures
    (known_row c.args.window source c.args.body.now.rows (map symbols new.cells.items) new.rows c.moved_row.new.known
    c.args.known.now.rows c.args.n c.in_ok-number.number c.requires.within (returns-clause-row g c) known)
