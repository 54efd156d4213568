-- The rows that are used are the same rows.
use Rattle.std.proofs.Common.{map, ◌∙◌}
use Rattle.quad_mat.proofs.MatLemmas.{room_source, finished_rows}
use Rattle.quad_mat.proofs.mat.finished.Goals as goal

pub renumbered-requires-clause-body : goal.renumbered-requires-clause-body
renumbered-requires-clause-body g c κs within =
    let room = c.args.room in
    room_source room.columns (map g.C.Cell.symbols room.cells.items) room.rows room.unions c.requires.room

pub packed-requires-clause-different : goal.packed-requires-clause-different
packed-requires-clause-different g c κs within = c.in_ok-numbers.ensures.different.each c.in_ok-used.ensures.different

pub returns : goal.returns
returns g c =
    let symbols = g.C.Cell.symbols in
    let room = c.args.room in
    let used = c.renumbered.new.room in
    let columns = c.in_ok-numbers.ensures.columns ∙ c.in_ok-used.ensures.columns in
    finished_rows room.columns (map symbols room.cells.items) (map symbols used.cells.items) room.rows used.rows
    c.args.numbers c.in_ok-numbers.numbers c.in_ok-mat.mat c.in_ok-numbers.ensures.count
    c.in_ok-numbers.ensures.rows (rw columns at c.in_ok-mat.ensures)
