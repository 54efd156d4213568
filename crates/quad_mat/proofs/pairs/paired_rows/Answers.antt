-- Nothing is known at first; one pair of rows more.
use Rattle.std.proofs.Common.{map, get_or, ◌+◌, ◌∙◌, ap, refl, sym}
use Rattle.std.proofs.lemmas.List.{length-map, length_push}
use Rattle.quad_mat.specs.Pairs.{PairHas}
use Rattle.quad_mat.proofs.RoomLemmas.{room_kept, room_then}
use Rattle.quad_mat.proofs.LoadingLemmas.{known_none, numbers_none}
use Rattle.quad_mat.proofs.PairLemmas.{pair_named, pair_next}
use Rattle.quad_mat.proofs.pairs.paired_rows.Goals as goal

pub loop-i-init : goal.loop-i-init
loop-i-init g c =
    let symbols = g.C.Cell.symbols in
    let room = c.args.room.now in
    let left = c.args.left.now in
    let right = c.args.right.now in
    let one = c.in_ok-one in
    let other = c.in_ok-other in
    rw c.in_ok-numbers.ensures (record {
      columns = refl;
      grows = room_kept room.columns (map symbols room.cells.items) room.rows room.unions c.requires.room;
      known = record {
        of_left =
            known_none c.args.windows.left (map symbols left.cells.items) left.rows (map symbols room.cells.items) room.rows
            one.one.cells one.one.rows (one.ensures.cells ∙ sym (length-map left.cells.items symbols))
            one.ensures.no_cell one.ensures.rows one.ensures.no_row;
        of_right =
            known_none c.args.windows.right (map symbols right.cells.items) right.rows (map symbols room.cells.items) room.rows
            other.other.cells other.other.rows (other.ensures.cells ∙ sym (length-map right.cells.items symbols))
            other.ensures.no_cell other.ensures.rows other.ensures.no_row;
      };
      count = refl;
      last = tt;
      rows = numbers_none (PairHas symbols left right c.args.windows) (map symbols room.cells.items) room.rows;
    })

pub next_pair-requires-clause-pair : goal.next_pair-requires-clause-pair
next_pair-requires-clause-pair g c κs within = rw c.loop-i.invariant.columns c.requires.pair

pub loop-i-preserved : goal.loop-i-preserved
loop-i-preserved g c =
    let symbols = g.C.Cell.symbols in
    let left = c.args.left.now in
    let right = c.args.right.now in
    let old = c.args.room.now in
    let now = c.loop-i.room in
    let new = c.next_pair.new.room in
    let before = c.loop-i.invariant in
    let made = c.in_ok-next.ensures in
    let next = c.in_ok-next.next in
    let grows = rw before.columns at made.grows in
    rw c.in_ok-push.ensures.ok (record {
      columns = made.columns ∙ before.columns;
      grows =
          room_then old.columns (map symbols old.cells.items) (map symbols now.cells.items) (map symbols new.cells.items)
          old.rows now.rows new.rows now.unions new.unions before.grows grows;
      known = made.known;
      count = length_push c.loop-i.numbers next.both ∙ ap (λ n. n + 1) before.count;
      last =
          pair_named symbols left right c.args.windows (map symbols new.cells.items) new.rows next _ _ made.rows.0
          made.rows.1 made.row;
      rows =
          pair_next old.columns (map symbols now.cells.items) (map symbols new.cells.items) now.rows new.rows now.unions
          new.unions before.grows.room grows symbols left right c.args.windows c.loop-i.numbers c.loop-i.i _ _ next.both
          (ap (λ xs. get_or xs c.loop-i.i 0) c.as_slice-lefts.ensures)
          (ap (λ xs. get_or xs c.loop-i.i 0) c.as_slice-rights.ensures) before.count made.row before.rows;
    })
