-- An image that is remembered, or one that is made.
use Rattle.std.proofs.Common.{map}
use Rattle.quad_mat.specs.Rows.{row_of}
use Rattle.quad_mat.proofs.EntryLemmas.{grows_then}
use Rattle.quad_mat.proofs.RoomLemmas.{room_cells}
use Rattle.quad_mat.proofs.ImageLemmas.{image_found, image_in_room, making_image}
use Rattle.quad_mat.proofs.images.number_of_image.Goals as goal

pub returns-in-Some-clause-image : goal.returns-in-Some-clause-image
returns-in-Some-clause-image g c =
    let symbols = g.C.Cell.symbols in
    let factors = c.args.factors.now in
    let making = c.args.making.now in
    image_found factors.bin.now (map symbols factors.left.now.cells.items) (map symbols factors.right.now.cells.items)
    factors.right.now.rows (map symbols making.room.cells.items) making.room.rows making.images c.args.left c.args.n
    c.in-Some.image c.requires.making.images_hold (rw c.as_slice.ensures at c.in-Some.ensures)

pub number_of_row-requires-clause-room : goal.number_of_row-requires-clause-room
number_of_row-requires-clause-room g c κs within =
    let room = c.args.making.now.room in
    room_cells room.columns (map g.C.Cell.symbols room.cells.items) room.rows room.unions c.requires.making.room _
    c.in_ok-made.ensures.grows c.in_ok-made.ensures.full

pub returns-clause-image : goal.returns-clause-image
returns-clause-image g c =
    let symbols = g.C.Cell.symbols in
    let factors = c.args.factors.now in
    image_in_room factors.bin.now (map symbols factors.left.now.cells.items) (map symbols factors.right.now.cells.items)
    c.args.making.now.room.columns (map symbols c.args.making.now.room.cells.items) c.args.left
    (row_of factors.right.now.rows c.args.n) (map symbols c.image_of.new.cells.items)
    (map symbols c.number_of_row.new.room.cells.items) c.image_of.new.products c.in_ok-made.made
    c.number_of_row.new.room.rows c.in_ok-image.image
    (rw (c.row_at-row.ensures, c.as_slice-2.ensures) at c.in_ok-made.ensures)
    c.in_ok-image.ensures.grows.cells_grow c.in_ok-image.ensures.row

pub returns-clause-more : goal.returns-clause-more
returns-clause-more g c =
    let symbols = g.C.Cell.symbols in
    let factors = c.args.factors.now in
    let making = c.args.making.now in
    let new = c.number_of_row.new.room in
    let made = c.in_ok-made.ensures in
    let grows = c.in_ok-image.ensures.grows in
    record {
      columns = c.in_ok-image.ensures.columns;
      cells_grow =
          grows_then (map symbols making.room.cells.items) (map symbols c.image_of.new.cells.items)
          (map symbols new.cells.items) made.grows grows.cells_grow;
      rows_grow = grows.rows_grow;
      making =
          rw c.in_ok-image.ensures.columns
          (making_image factors.bin.now (map symbols factors.left.now.cells.items)
          (map symbols factors.right.now.cells.items) c.push.result factors.right.now.rows making.room.columns
          (map symbols making.room.cells.items) (map symbols c.image_of.new.cells.items) (map symbols new.cells.items)
          making.room.rows new.rows making.room.unions new.unions making.products c.image_of.new.products making.images
          c.push.new.self c.args.left c.args.n c.in_ok-image.image c.requires.making made.grows made.remembered grows
          (returns-clause-image g c) c.push.ensures.ok c.push.ensures.err);
    }
