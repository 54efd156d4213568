-- The token's cell is written at its end.
use Rattle.std.proofs.Common.{◌+◌, refl}
use Rattle.valiant.proofs.CutLemmas.{one_token_entry}
use Rattle.valiant.proofs.NextRowLemmas.{first_cells}
use Rattle.valiant.proofs.filling.first_cells.Goals as goal

pub returns : goal.returns
returns g c =
    let symbols = g.C.Cell.symbols in
    let kinds = c.args.kinds.now in
    let i = c.args.token in
    let token =
    one_token_entry c.args.bin.now c.requires.own_symbols kinds i (i + 1) (symbols c.token_cell.result.now)
    (symbols c.in_ok-cell.cell) c.requires.within refl c.token_cell.ensures c.in_ok-cell.ensures in
    first_cells symbols c.args.bin.now kinds i c.args.cells.items c.in_ok-cell.cell c.requires.empty.0
    c.requires.empty.1 c.requires.within token
