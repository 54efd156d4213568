-- By the rows in the window.
use Rattle.std.proofs.Common.{map, refl, ◌∙◌}
use Rattle.quad_mat.proofs.MatLemmas.{part_rows}
use Rattle.quad_mat.proofs.mat.part.Goals as goal

pub packed-requires-clause-different : goal.packed-requires-clause-different
packed-requires-clause-different g c κs within = c.in_ok-numbers.ensures.different.each c.in_ok-room.ensures.different

pub returns-clause-part : goal.returns-clause-part
returns-clause-part g c =
    let room = c.loaded.new.room in
    let columns = c.in_ok-numbers.ensures.columns ∙ c.in_ok-room.ensures.columns in
    part_rows c.args.mat.now c.in_ok-part.part (record { first = c.args.column; width = c.args.columns; to = 0 }) c.args.row
    c.args.columns (map g.C.Cell.symbols room.cells.items) room.rows c.in_ok-numbers.numbers refl refl
    c.in_ok-numbers.ensures.rows (rw columns at c.in_ok-part.ensures)
