-- No entry, one more entry in the window or outside, and all entries.
use Rattle.std.proofs.Common.{map, arith}
use Rattle.std.proofs.lemmas.List.{length-map}
use Rattle.quad_mat.specs.Rows.{blank}
use Rattle.quad_mat.proofs.LoadingLemmas.{moved_start, moved_step, moved_all}
use Rattle.quad_mat.proofs.loading.moved_row.Goals as goal

pub loop-entry-init : goal.loop-entry-init
loop-entry-init g c =
    let symbols = g.C.Cell.symbols in
    rw c.in_ok-made.ensures
    (moved_start c.args.window c.args.columns (map symbols c.args.source.now) (map symbols c.args.cells.now.items) c.args.row.now
    c.args.known.now c.requires.full c.requires.copied)

pub push_moved-requires-clause-within : goal.push_moved-requires-clause-within
push_moved-requires-clause-within g c κs within =
    omega (
      arith,
      length-map c.args.source.now g.C.Cell.symbols,
      c.requires.cells c.loop-entry.entry-index blank c.loop-entry-test.true,
    )

pub loop-entry-preserved : goal.loop-entry-preserved
loop-entry-preserved g c =
    let symbols = g.C.Cell.symbols in
    moved_step c.args.window c.args.columns (map symbols c.args.source.now) (map symbols c.args.cells.now.items)
    (map symbols c.loop-entry.cells.items) (map symbols c.push_moved.new.cells.items) c.args.row.now c.loop-entry.known
    c.push_moved.new.known c.loop-entry.entry-index c.loop-entry.made c.push_moved.new.made c.requires.rising c.requires.fits
    c.loop-entry-test.true c.loop-entry.invariant c.in_ok-push_moved.ensures

pub returns : goal.returns
returns g c =
    let symbols = g.C.Cell.symbols in
    moved_all c.args.window c.args.columns (map symbols c.args.source.now) (map symbols c.args.cells.now.items) c.args.row.now
    (map symbols c.loop-entry.cells.items) c.loop-entry.known c.loop-entry.entry-index c.loop-entry.made
    c.loop-entry-test.false c.loop-entry.auto.entry-index-end c.loop-entry.invariant
