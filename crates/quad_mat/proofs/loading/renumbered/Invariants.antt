-- The first numbers are changed, and the others are as they were.
use Rattle.std.proofs.Common.{◌≡◌, map}
use Rattle.quad_mat.specs.Rows.{StayDifferent}
use Rattle.quad_mat.specs.Rooms.{RoomGrows}
use Rattle.quad_mat.specs.Loading.{IsKnown, Renumbers}
use Rattle.quad_mat.proofs.loading.renumbered.Given as goal

abbrev pub invariant-loop-i : goal.invariant-loop-i
invariant-loop-i g l =
    let symbols = g.C.Cell.symbols in record {
      columns : l.room.columns ≡ (l.fn).room.columns;
      grows : RoomGrows (l.fn).room.columns (map symbols (l.fn).room.cells.items) (l.fn).room.rows
          (map symbols l.room.cells.items) l.room.rows l.room.unions;
      different : StayDifferent (map symbols (l.fn).room.cells.items) (map symbols l.room.cells.items);
      known : IsKnown l.window (map symbols l.body.cells.items) l.body.rows
          (map symbols l.room.cells.items) l.room.rows l.known.cells l.known.rows;
      numbers : Renumbers l.window (map symbols l.body.cells.items) l.body.rows (l.fn).named
          (map symbols l.room.cells.items) l.room.rows l.numbers l.i;
    }
