use Rattle.binary_form.proofs.LeftSideLemmas.{adds_where}
use Rattle.binary_form.proofs.left_sides.insert_if.Goals as goal

pub returns-in_ok-insert : goal.returns-in_ok-insert
returns-in_ok-insert g c =
    let symbols = g.C.Cell.symbols in
    adds_where c.args.test c.args.number (symbols c.args.cell.now) (symbols c.insert.new.self) c.if-test.true
    c.in_ok-insert.ensures.ok
