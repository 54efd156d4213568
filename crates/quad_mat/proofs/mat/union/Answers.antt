-- By the rows of both.
use Rattle.std.proofs.Common.{map, sym, ◌∙◌}
use Rattle.quad_mat.proofs.MatLemmas.{union_rows}
use Rattle.quad_mat.proofs.mat.union.Goals as goal

pub returns : goal.returns
returns g c =
    let room = c.both_loaded.new.room in
    let columns = c.in_ok-numbers.ensures.columns ∙ c.in_ok-room.ensures.columns ∙ c.cols.ensures in
    union_rows c.args.a.now c.args.b.now c.in_ok-both.both (map g.C.Cell.symbols room.cells.items) room.rows
    c.in_ok-numbers.numbers (sym c.requires.columns) c.in_ok-numbers.ensures.count c.in_ok-numbers.ensures.rows
    (rw columns at c.in_ok-both.ensures)
