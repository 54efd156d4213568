-- The empty row at first, an entry passed over, one image more, and all entries.
use Rattle.std.proofs.Common.{map, length, get_or, ◌<◌, ℕ, ap, sym, ◌∙◌, arith}
use Rattle.std.proofs.lemmas.Bool.{false≢true}
use Rattle.quad_mat.specs.Rows.{cell_of, row_of, blank, column_at}
use Rattle.quad_mat.proofs.ProductLemmas.{more_self, more_then, more_room, sum_start, sum_step, sum_passed, sum_all}
use Rattle.quad_mat.proofs.MeetingLemmas.{makes_nothing}
use Rattle.quad_mat.proofs.products.row_product.Goals as goal

pub loop-entry-init : goal.loop-entry-init
loop-entry-init g c =
    let symbols = g.C.Cell.symbols in
    let factors = c.args.factors.now in
    let left = factors.left.now in
    let right = factors.right.now in
    let making = c.args.making.now in record {
      more = more_self symbols factors.bin.now left right making c.requires.making;
      sum =
          sum_start factors.bin.now (map symbols left.cells.items) (map symbols right.cells.items) right.rows right.numbers
          c.args.row.now making.room.columns (map symbols making.room.cells.items) making.room.rows making.room.unions
          c.requires.making.room;
    }

pub number_of_image-requires-clause-row : goal.number_of_image-requires-clause-row
number_of_image-requires-clause-row g c κs within =
    let right = c.args.factors.now.right.now in
    let k : ℕ = column_at c.args.row.now c.loop-entry.entry-index in
    let inside : c.loop-entry.entry-index < length c.args.row.now = omega (arith, c.loop-entry-test.true) in
    let below : k < length right.numbers = c.requires.row.columns_below c.loop-entry.entry-index blank inside in
    rw (c.as_slice-named.ensures, c.loop-entry.invariant.more.columns)
    (c.requires.right.each (get_or right.numbers k 0) (c.requires.right.within k below))

pub loop-entry-preserved-then-not-meeting-entry : goal.loop-entry-preserved-then-not-meeting-entry
loop-entry-preserved-then-not-meeting-entry g c =
    let symbols = g.C.Cell.symbols in
    let factors = c.args.factors.now in
    let right = factors.right.now in
    let cells = map symbols factors.left.now.cells.items in
    let others = map symbols right.cells.items in
    let row = c.args.row.now in
    let at = c.loop-entry.entry-index in
    let room = c.loop-entry.making.room in
    let k : ℕ = column_at row at in
    let inside : at < length row = omega (arith, c.loop-entry-test.true) in
    let below : k < length right.numbers = c.requires.row.columns_below at blank inside in
    let is_row = c.requires.right.each (get_or right.numbers k 0) (c.requires.right.within k below) in
    let cell : ℕ = (get_or row at blank).cell in
    let flag = c.requires.meeting.each cell (c.requires.row.cells_below at blank inside) in
    record {
      more = c.loop-entry.invariant.more;
      sum =
          sum_passed factors.bin.now cells others right.rows right.numbers row (map symbols room.cells.items) room.rows at
          c.loop-entry.sum
          (makes_nothing factors.bin.now others (cell_of cells cell) (row_of right.rows (get_or right.numbers k 0))
          is_row.cells_below (λ meets. false≢true (sym c.if-not-meeting-entry.true ∙ flag.1 meets)))
          c.loop-entry.invariant.sum;
    }

pub loop-entry-preserved : goal.loop-entry-preserved
loop-entry-preserved g c =
    let symbols = g.C.Cell.symbols in
    let factors = c.args.factors.now in
    let bin = factors.bin.now in
    let left = factors.left.now in
    let right = factors.right.now in
    let now = c.loop-entry.making in
    let mid = c.number_of_image.new.making in
    let room = c.number_of_union.new.room in
    let before = c.loop-entry.invariant in
    let image = c.in_ok-image.ensures in
    let union = c.in_ok-sum.ensures in
    let more = more_room symbols bin left right mid room image.more.making union.columns union.grows in record {
      more =
          more_then symbols bin left right c.args.making.now now _ before.more
          (more_then symbols bin left right now mid _ image.more more);
      sum =
          sum_step bin (map symbols left.cells.items) (map symbols right.cells.items) right.rows right.numbers c.args.row.now
          mid.room.columns (map symbols now.room.cells.items) (map symbols mid.room.cells.items)
          (map symbols room.cells.items) now.room.rows mid.room.rows room.rows now.room.unions mid.room.unions room.unions
          c.loop-entry.entry-index c.loop-entry.sum _ c.in_ok-image.image c.in_ok-sum.sum
          (rw image.more.columns before.more.making.room)
          image.more.cells_grow image.more.rows_grow image.more.making.room union.grows
          (ap (λ xs. get_or xs (column_at c.args.row.now c.loop-entry.entry-index) 0) c.as_slice-named.ensures) before.sum image.image union.union;
    }

pub returns-clause-row : goal.returns-clause-row
returns-clause-row g c =
    let symbols = g.C.Cell.symbols in
    let factors = c.args.factors.now in
    let left = factors.left.now in
    let right = factors.right.now in
    let room = c.loop-entry.making.room in
    sum_all factors.bin.now (map symbols left.cells.items) (map symbols right.cells.items) right.rows right.numbers
    c.args.row.now (map symbols room.cells.items) room.rows c.loop-entry.entry-index c.loop-entry.sum
    (omega (arith, c.loop-entry-test.false)) c.loop-entry.auto.entry-index-end c.loop-entry.invariant.sum
