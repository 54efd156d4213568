-- Nothing is known at first; one number more; all numbers.
use Rattle.std.proofs.Common.{map, get_or, ◌∙◌, ap, refl, sym, arith}
use Rattle.std.proofs.lemmas.List.{length-map}
use Rattle.quad_mat.proofs.CellLemmas.{stay_same, stay_then}
use Rattle.quad_mat.proofs.RoomLemmas.{room_kept, room_then}
use Rattle.quad_mat.proofs.LoadingLemmas.{known_none, renumber_start, renumber_next, renumber_all}
use Rattle.quad_mat.proofs.loading.renumbered.Goals as goal

pub loop-i-init : goal.loop-i-init
loop-i-init g c =
    let symbols = g.C.Cell.symbols in
    let room = c.args.room.now in
    let body = c.args.body.now in
    let known = c.in_ok-known in record {
      columns = refl;
      grows = room_kept room.columns (map symbols room.cells.items) room.rows room.unions c.requires.room;
      different = stay_same (map symbols room.cells.items);
      known =
          known_none c.args.window (map symbols body.cells.items) body.rows (map symbols room.cells.items) room.rows
          known.known.cells known.known.rows (known.ensures.cells ∙ sym (length-map body.cells.items symbols))
          known.ensures.no_cell known.ensures.rows known.ensures.no_row;
      numbers =
          renumber_start c.args.window (map symbols body.cells.items) body.rows c.args.named (map symbols room.cells.items)
          room.rows;
    }

pub loaded_row-requires-clause-within : goal.loaded_row-requires-clause-within
loaded_row-requires-clause-within g c κs within =
    let before = c.loop-i.invariant.numbers in
    rw (c.as_slice.ensures, before.rest c.loop-i.i (omega arith))
    (c.requires.numbers c.loop-i.i (omega (arith, c.loop-i-test.true, c.len-i-end.ensures, before.same)))

pub loop-i-preserved : goal.loop-i-preserved
loop-i-preserved g c =
    let symbols = g.C.Cell.symbols in
    let body = c.args.body.now in
    let old = c.args.room.now in
    let now = c.loop-i.room in
    let new = c.loaded_row.new.room in
    let before = c.loop-i.invariant in
    let made = c.in_ok-m.ensures in
    let grows = rw before.columns at made.grows in
    rw c.set.ensures (record {
      columns = made.columns ∙ before.columns;
      grows =
          room_then old.columns (map symbols old.cells.items) (map symbols now.cells.items) (map symbols new.cells.items)
          old.rows now.rows new.rows now.unions new.unions before.grows grows;
      different =
          stay_then (map symbols old.cells.items) (map symbols now.cells.items) (map symbols new.cells.items)
          before.different made.different;
      known = made.known;
      numbers =
          renumber_next c.args.window (map symbols body.cells.items) body.rows c.args.named old.columns
          (map symbols now.cells.items) (map symbols new.cells.items) now.rows new.rows now.unions new.unions
          c.loop-i.numbers c.loop-i.i _ c.in_ok-m.m before.grows.room grows
          (omega (arith, c.loop-i-test.true, c.len-i-end.ensures, before.numbers.same))
          (ap (λ xs. get_or xs c.loop-i.i 0) c.as_slice.ensures) made.row before.numbers;
    })

pub returns-clause-rows : goal.returns-clause-rows
returns-clause-rows g c =
    let symbols = g.C.Cell.symbols in
    let body = c.args.body.now in
    let room = c.loop-i.room in
    let done = c.loop-i.invariant.numbers in
    renumber_all c.args.window (map symbols body.cells.items) body.rows c.args.named (map symbols room.cells.items)
    room.rows c.loop-i.numbers c.loop-i.i (omega (arith, c.loop-i-test.false, c.len-i-end.ensures, done.same)) done
