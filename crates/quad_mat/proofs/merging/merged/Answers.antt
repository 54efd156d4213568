-- No entry, one more entry, and all entries.
use Rattle.std.proofs.Common.{map}
use Rattle.quad_mat.proofs.MergingLemmas.{merged_start, merged_more, merged_all}
use Rattle.quad_mat.proofs.merging.merged.Goals as goal

pub loop-i-init : goal.loop-i-init
loop-i-init g c =
    rw c.new-row.ensures
    (merged_start c.args.columns (map g.C.Cell.symbols c.args.cells.now.items) c.args.left.now c.args.right.now c.requires.full)

pub loop-i-preserved : goal.loop-i-preserved
loop-i-preserved g c =
    let symbols = g.C.Cell.symbols in
    rw c.in_ok-push.ensures.ok
    (merged_more c.args.columns (map symbols c.args.cells.now.items) c.args.left.now c.args.right.now c.requires.left
    c.requires.right (map symbols c.loop-i.cells.items) (map symbols c.next_step.new.cells.items) c.loop-i.i c.loop-i.j
    c.loop-i.row c.in_ok-step.step c.loop-i.invariant c.in_ok-step.ensures)

pub returns : goal.returns
returns g c =
    let symbols = g.C.Cell.symbols in
    merged_all c.args.columns (map symbols c.args.cells.now.items) c.args.left.now c.args.right.now
    (map symbols c.loop-i.cells.items) c.loop-i.i c.loop-i.j c.loop-i.row c.if-i-left.false c.if-j-right.false
    c.loop-i.invariant
