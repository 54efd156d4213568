-- What stands at the end's place is found, and nothing where it has no place.
use Rattle.std.proofs.Common.{sym}
use Rattle.valiant.proofs.RowLemmas.{found_place, found_none}
use Rattle.valiant.proofs.rows.cell_at.Goals as goal

pub returns-in-Ok : goal.returns-in-Ok
returns-in-Ok g c =
    let at = c.in-Ok.ensures in
    sym (found_place g.C.Cell.symbols c.args.row.now c.args.end c.in-Ok.at c.index-row-at.result c.requires at.0
    (at.1 c.index-row-at.result))

pub returns-in-Err : goal.returns-in-Err
returns-in-Err g c = found_none g.C.Cell.symbols c.args.row.now c.args.end c.in-Err.ensures
