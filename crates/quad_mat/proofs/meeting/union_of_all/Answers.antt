-- One cell more, and all cells.
use Rattle.std.proofs.Common.{◌≡◌, ℕ, length, map, subst, arith}
use Rattle.std.proofs.lemmas.List.{length-map}
use Rattle.quad_mat.specs.Meeting.{IsUnionOfFirst}
use Rattle.quad_mat.proofs.EntryLemmas.{cell_read}
use Rattle.quad_mat.proofs.MeetingLemmas.{united_more}
use Rattle.quad_mat.proofs.meeting.union_of_all.Goals as goal

pub loop-cell-preserved : goal.loop-cell-preserved
loop-cell-preserved g c =
    let symbols = g.C.Cell.symbols in
    let cells = c.args.cells.now in
    united_more (map symbols cells) c.loop-cell.cell-index (symbols c.loop-cell.all) (symbols c.cell-item.result)
    (symbols c.in_ok-all.all)
    (cell_read symbols cells c.loop-cell.cell-index c.cell-item.result (omega (arith, c.loop-cell-test.true)) c.cell-item.is)
    c.in_ok-all.ensures.ok c.loop-cell.invariant

pub returns : goal.returns
returns g c =
    let symbols = g.C.Cell.symbols in
    let cells = c.args.cells.now in
    let United : ℕ → Type 0 = λ n. IsUnionOfFirst (map symbols cells) n (symbols c.loop-cell.all) in
    let end : c.loop-cell.cell-index ≡ length (map symbols cells) =
    omega (arith, length-map cells symbols, c.loop-cell-test.false, c.loop-cell.auto.cell-index-end) in
    subst United end c.loop-cell.invariant
