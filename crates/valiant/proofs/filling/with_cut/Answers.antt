-- The cell with the product is written at the entry's end.
use Rattle.std.proofs.Common.{◌≡◌, get_or, sym, subst}
use Rattle.valiant.proofs.CellLemmas.{cut_set}
use Rattle.valiant.proofs.filling.with_cut.Goals as goal

pub returns : goal.returns
returns g c =
    let symbols = g.C.Cell.symbols in
    let cells = c.args.cells.items in
    let at = c.args.entry.now.end in
    let is = subst (λ x. x ≡ get_or cells at x) (sym c.replace-cell.ensures.value) c.index_mut.ensures.value in
    cut_set symbols c.args.bin.now (symbols c.args.left.now) c.args.entry.now cells c.replace-cell.result
    _ c.in_ok-both.both c.requires is c.in_ok-both.ensures
