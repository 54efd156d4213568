-- The numbers so far are those of the pairs so far.
use Rattle.std.proofs.Common.{◌≡◌, length, map}
use Rattle.std.specs.Prelude.{IfSome}
use Rattle.quad_mat.specs.Rooms.{RoomGrows}
use Rattle.quad_mat.specs.Loading.{AreNumbersOf}
use Rattle.quad_mat.specs.Pairs.{IsPairRow, KnowsPair, PairHas}
use Rattle.quad_mat.proofs.pairs.paired_rows.Given as goal

abbrev pub invariant-loop-i : goal.invariant-loop-i
invariant-loop-i g l =
    let symbols = g.C.Cell.symbols in record {
      columns : l.room.columns ≡ (l.fn).room.columns;
      grows : RoomGrows (l.fn).room.columns (map symbols (l.fn).room.cells.items) (l.fn).room.rows
          (map symbols l.room.cells.items) l.room.rows l.room.unions;
      known : KnowsPair symbols l.left l.right l.windows (map symbols l.room.cells.items) l.room.rows l.known;
      count : length l.numbers ≡ l.i;
      last : IfSome l.last (λ p.
          IsPairRow symbols l.left l.right l.windows p.left p.right (map symbols l.room.cells.items) l.room.rows p.both);
      rows : AreNumbersOf (PairHas symbols l.left l.right l.windows) (map symbols l.room.cells.items) l.room.rows l.numbers;
    }
