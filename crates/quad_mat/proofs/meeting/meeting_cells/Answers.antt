-- By the left partners of what the right cells have.
use Rattle.std.proofs.Common.{length, map, refl}
use Rattle.std.proofs.lemmas.Result.{IfOk-weaker}
use Rattle.cell_sets.specs.Cells.{Meet}
use Rattle.quad_mat.specs.Meeting.{AreMeeting, MeetsSome}
use Rattle.quad_mat.proofs.MeetingLemmas.{flags_all, meets_some}
use Rattle.quad_mat.proofs.meeting.meeting_cells.Goals as goal

pub returns : goal.returns
returns g c =
    let symbols = g.C.Cell.symbols in
    let factors = c.args.factors.now in
    let bin = factors.bin.now in
    let left = factors.left.now in
    let right = factors.right.now in
    let cells = map symbols left.cells.items in
    let others = map symbols right.cells.items in
    let partners = symbols c.in_ok-partners.partners in
    IfOk-weaker c.which_have.result _ (λ flags. AreMeeting symbols bin left right flags.items)
    (λ flags. flags_all (λ cell. Meet cell partners) cells (MeetsSome bin others) (length cells) flags.items refl
    (λ cell. meets_some bin others (symbols c.in_ok-all.all) partners cell (rw c.as_slice.ensures.value at c.in_ok-all.ensures)
    c.in_ok-partners.ensures))
    (rw c.as_slice-2.ensures.value at c.which_have.ensures)
