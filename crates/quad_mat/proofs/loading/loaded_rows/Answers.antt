-- Nothing is known at first; one row more.
use Rattle.std.proofs.Common.{map, length, get_or, ◌≡◌, ◌+◌, ◌∙◌, ap, refl, arith}
use Rattle.std.proofs.lemmas.List.{length-map, length_push}
use Rattle.quad_mat.specs.Loading.{MovedNumberHas}
use Rattle.quad_mat.proofs.CellLemmas.{stay_same, stay_then}
use Rattle.quad_mat.proofs.RoomLemmas.{room_kept, room_then}
use Rattle.quad_mat.proofs.LoadingLemmas.{known_none, numbers_none, moved_next}
use Rattle.quad_mat.proofs.loading.loaded_rows.Goals as goal

pub loop-i-init : goal.loop-i-init
loop-i-init g c =
    let symbols = g.C.Cell.symbols in
    let room = c.args.room.now in
    let source = map symbols c.args.body.now.cells.items in
    let count : length c.in_ok-cells.cells ≡ length source =
    omega (arith, c.in_ok-cells.ensures.count, c.len.ensures, c.args.body.now.cells.ok.0, length-map c.args.body.now.cells.items symbols) in
    rw c.in_ok-numbers.ensures (record {
      columns = refl;
      grows = room_kept room.columns (map symbols room.cells.items) room.rows room.unions c.requires.room;
      different = stay_same (map symbols room.cells.items);
      known =
          known_none c.args.window source c.args.body.now.rows (map symbols room.cells.items) room.rows c.in_ok-cells.cells
          c.in_ok-rows.rows count c.in_ok-cells.ensures.none (c.in_ok-rows.ensures.count ∙ c.len-2.ensures)
          c.in_ok-rows.ensures.none;
      count = refl;
      rows =
          numbers_none (MovedNumberHas c.args.window source c.args.body.now.rows c.args.body.now.numbers c.args.first)
          (map symbols room.cells.items) room.rows;
    })

pub loop-i-preserved : goal.loop-i-preserved
loop-i-preserved g c =
    let symbols = g.C.Cell.symbols in
    let old = c.args.room.now in
    let now = c.loop-i.room in
    let new = c.loaded_row.new.room in
    let before = c.loop-i.invariant in
    let made = c.in_ok-m.ensures in
    let grows = rw before.columns at made.grows in
    let source = map symbols c.args.body.now.cells.items in
    let place : c.args.first + length c.loop-i.numbers ≡ c.args.first + c.loop-i.i = ap (λ n. c.args.first + n) before.count in
    rw c.in_ok-push.ensures.ok (record {
      columns = made.columns ∙ before.columns;
      grows =
          room_then old.columns (map symbols old.cells.items) (map symbols now.cells.items) (map symbols new.cells.items)
          old.rows now.rows new.rows now.unions new.unions before.grows grows;
      different =
          stay_then (map symbols old.cells.items) (map symbols now.cells.items) (map symbols new.cells.items)
          before.different made.different;
      known = made.known;
      count = length_push c.loop-i.numbers c.in_ok-m.m ∙ ap (λ n. n + 1) before.count;
      rows =
          moved_next c.args.window source c.args.body.now.rows c.args.body.now.numbers c.args.first old.columns
          (map symbols now.cells.items) (map symbols new.cells.items) now.rows new.rows now.unions new.unions
          c.loop-i.numbers (c.args.first + c.loop-i.i) _ c.in_ok-m.m before.grows.room grows
          (ap (λ xs. get_or xs (c.args.first + c.loop-i.i) 0) c.as_slice-named.ensures) place made.row before.rows;
    })
