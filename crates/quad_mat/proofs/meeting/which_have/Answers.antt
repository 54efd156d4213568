-- One flag more, and all flags.
use Rattle.std.proofs.Common.{◌≡◌, map, arith}
use Rattle.std.proofs.lemmas.List.{length-map}
use Rattle.cell_sets.specs.Cells.{Meet}
use Rattle.quad_mat.specs.Rows.{cell_of}
use Rattle.quad_mat.proofs.EntryLemmas.{cell_read}
use Rattle.quad_mat.proofs.MeetingLemmas.{flags_more, flags_all}
use Rattle.quad_mat.proofs.meeting.which_have.Goals as goal

pub loop-cell-preserved : goal.loop-cell-preserved
loop-cell-preserved g c =
    let symbols = g.C.Cell.symbols in
    let cells = c.args.cells.now in
    let read : cell_of (map symbols cells) c.loop-cell.cell-index ≡ symbols c.cell-item.result =
    cell_read symbols cells c.loop-cell.cell-index c.cell-item.result (omega (arith, c.loop-cell-test.true)) c.cell-item.is in
    rw c.in_ok-push.ensures.items
    (flags_more (λ cell. Meet cell (symbols c.args.symbols.now)) (map symbols cells) c.loop-cell.cell-index
    c.loop-cell.flags.items c.meets.result (rw read c.meets.ensures) c.loop-cell.invariant)

pub returns : goal.returns
returns g c =
    let symbols = g.C.Cell.symbols in
    let cells = c.args.cells.now in
    flags_all (λ cell. Meet cell (symbols c.args.symbols.now)) (map symbols cells)
    (λ cell. Meet cell (symbols c.args.symbols.now)) c.loop-cell.cell-index c.loop-cell.flags.items
    (omega (arith, length-map cells symbols, c.loop-cell-test.false, c.loop-cell.auto.cell-index-end))
    (λ cell. ((λ h. h), (λ h. h))) c.loop-cell.invariant
