-- One more entry, and all entries.
use Rattle.valiant.proofs.CellLemmas.{cuts_start, cuts_more, cuts_all}
use Rattle.valiant.proofs.filling.with_cuts.Goals as goal

pub loop-entry-init : goal.loop-entry-init
loop-entry-init g c =
    let symbols = g.C.Cell.symbols in
    cuts_start symbols c.args.bin.now (symbols c.args.left.now) c.args.cells.items

pub loop-entry-preserved : goal.loop-entry-preserved
loop-entry-preserved g c =
    let symbols = g.C.Cell.symbols in
    cuts_more symbols c.args.bin.now (symbols c.args.left.now) c.args.behind.now c.requires.rising
    c.loop-entry.entry-index c.entry-item.result c.args.cells.items c.loop-entry.cells.items c.in_ok-cells.cells.items
    c.loop-entry-test.true c.entry-item.is c.loop-entry.invariant c.in_ok-cells.ensures

pub returns : goal.returns
returns g c =
    let symbols = g.C.Cell.symbols in
    cuts_all symbols c.args.bin.now (symbols c.args.left.now) c.args.behind.now c.loop-entry.entry-index
    c.args.cells.items c.loop-entry.cells.items c.loop-entry-test.false c.loop-entry.invariant
