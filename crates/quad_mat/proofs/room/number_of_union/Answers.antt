-- A union that is remembered.
use Rattle.quad_mat.proofs.RoomLemmas.{union_known}
use Rattle.std.proofs.Common.{map}
use Rattle.quad_mat.proofs.room.number_of_union.Goals as goal

pub returns-in-Some-clause-union : goal.returns-in-Some-clause-union
returns-in-Some-clause-union g c =
    let room = c.args.room.now in
    union_known room.columns (map g.C.Cell.symbols room.cells.items) room.rows room.unions c.requires.room c.args.a c.args.b
    c.in-Some.both (rw c.as_slice.ensures at c.in-Some.ensures)
