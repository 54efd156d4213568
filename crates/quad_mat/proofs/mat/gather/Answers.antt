-- By the upper rows and the lower ones.
use Rattle.std.proofs.Common.{map, refl, ◌+◌, ◌∙◌}
use Rattle.quad_mat.specs.Loading.{BothHave}
use Rattle.quad_mat.proofs.LoadingLemmas.{numbers_grow}
use Rattle.quad_mat.proofs.MatLemmas.{gathered_rows}
use Rattle.quad_mat.proofs.mat.gather.Goals as goal

pub returns : goal.returns
returns g c =
    let symbols = g.C.Cell.symbols in
    let cut = c.args.cut.now in
    let mid = c.both_loaded.new.room in
    let new = c.both_loaded-2.new.room in
    let upper = rw c.cols-column.ensures at c.in_ok-numbers.ensures.rows in
    let lower = rw c.cols-column.ensures at c.in_ok-lower.ensures.rows in
    let grows = c.in_ok-lower.ensures.grows in
    let columns = c.in_ok-lower.ensures.columns ∙ c.in_ok-numbers.ensures.columns ∙ c.in_ok-room.ensures.columns in
    gathered_rows cut.a11 cut.a12 cut.a21 cut.a22 c.in_ok-whole.whole (cut.a11.columns + cut.a12.columns)
    (map symbols new.cells.items) new.rows c.in_ok-numbers.numbers c.in_ok-lower.lower c.requires.upper c.requires.lower
    c.requires.left c.requires.right refl c.in_ok-numbers.ensures.count c.in_ok-lower.ensures.count
    (numbers_grow (BothHave cut.a11 cut.a12 cut.a11.columns) _ (map symbols mid.cells.items) (map symbols new.cells.items)
    mid.rows new.rows mid.unions c.in_ok-numbers.numbers c.in_ok-numbers.ensures.grows.room grows.cells_grow
    grows.rows_grow upper)
    lower (rw (columns, c.cols-column.ensures, c.cols.ensures, c.in_ok-append.ensures) at c.in_ok-whole.ensures)
