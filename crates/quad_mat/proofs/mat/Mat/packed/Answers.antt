-- By what the room has.
use Rattle.std.proofs.Common.{sym}
use Rattle.quad_mat.proofs.MatLemmas.{kept_room, packed_room}
use Rattle.quad_mat.proofs.mat.Mat.packed.Goals as goal

pub invariant_of-result : goal.invariant_of-result
invariant_of-result g c =
    kept_room g.C.Cell.symbols _ _ c.in_ok-body.body _ c.args.room.unions c.in_ok-body.ensures.ok (sym c.requires.count)
    c.requires.room c.requires.different c.requires.numbers

pub returns : goal.returns
returns g c =
    packed_room g.C.Cell.symbols _ _ c.in_ok-body.body _ c.args.room.unions c.in_ok-body.ensures.ok (sym c.requires.count)
    c.requires.room c.requires.different c.requires.numbers
