-- The union, which is not empty.
use Rattle.std.proofs.Common.{map}
use Rattle.std.proofs.lemmas.Result.{IfOk-weaker}
use Rattle.quad_mat.specs.Rooms.{NumbersCell, NumbersBoth}
use Rattle.quad_mat.proofs.CellLemmas.{numbers_both, union_some}
use Rattle.quad_mat.proofs.cells.number_of_both.Goals as goal

pub number_of_cell-requires-clause-some : goal.number_of_cell-requires-clause-some
number_of_cell-requires-clause-some g c κs within =
    let symbols = g.C.Cell.symbols in
    union_some symbols c.args.cells.now.items c.args.a c.index.result.now c.in_ok-both.both
    (symbols c.index-2.result.now) c.requires.full c.requires.left c.index.ensures c.in_ok-both.ensures.ok

pub returns : goal.returns
returns g c =
    let symbols = g.C.Cell.symbols in
    let cells = c.args.cells.now.items in
    let new = c.number_of_cell.new.cells.items in
    IfOk-weaker c.number_of_cell.result (NumbersCell (map symbols cells) (map symbols new) (symbols c.in_ok-both.both))
    (NumbersBoth (map symbols cells) (map symbols new) c.args.a c.args.b)
    (λ n. numbers_both symbols cells new c.args.a c.args.b n c.index.result.now c.index-2.result.now c.in_ok-both.both
    c.requires.left c.requires.right c.index.ensures c.index-2.ensures c.in_ok-both.ensures.ok)
    c.number_of_cell.ensures
