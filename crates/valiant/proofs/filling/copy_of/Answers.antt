-- A union with nothing.
use Rattle.valiant.proofs.CutLemmas.{same_union}
use Rattle.valiant.proofs.filling.copy_of.Goals as goal

pub returns : goal.returns
returns g c =
    let symbols = g.C.Cell.symbols in
    same_union (symbols c.empty.result) (symbols c.args.cell.now) (symbols c.in_ok-copy.copy) c.empty.ensures.items
    c.in_ok-copy.ensures.ok
