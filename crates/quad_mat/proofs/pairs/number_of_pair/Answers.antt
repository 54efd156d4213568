-- By the rows that came into the room.
use Rattle.std.proofs.Common.{map, ◌∙◌}
use Rattle.quad_mat.proofs.LoadingLemmas.{known_kept}
use Rattle.quad_mat.proofs.PairLemmas.{pair_known, pair_row}
use Rattle.quad_mat.proofs.pairs.number_of_pair.Goals as goal

pub loaded_row-requires-2-clause-known : goal.loaded_row-requires-2-clause-known
loaded_row-requires-2-clause-known g c κs within =
    let symbols = g.C.Cell.symbols in
    let right = c.args.right.now in
    let old = c.args.room.now in
    let one = c.loaded_row.new.room in
    let known = c.args.known.now.other in
    known_kept old.columns (map symbols old.cells.items) (map symbols one.cells.items) old.rows one.rows old.unions
    one.unions c.requires.room c.in_ok-one.ensures.grows c.args.windows.right (map symbols right.cells.items) right.rows
    known.cells known.rows c.requires.known.of_right

pub returns-clause-known : goal.returns-clause-known
returns-clause-known g c =
    let symbols = g.C.Cell.symbols in
    let old = c.args.room.now in
    let one = c.loaded_row.new.room in
    let two = c.loaded_row-2.new.room in
    let new = c.number_of_union.new.room in
    let first = c.in_ok-one.ensures in
    let second = c.in_ok-other.ensures in
    let third = c.in_ok-both.ensures in
    pair_known old.columns (map symbols one.cells.items) (map symbols two.cells.items) (map symbols new.cells.items)
    one.rows two.rows new.rows one.unions two.unions new.unions first.grows.room (rw first.columns at second.grows)
    (rw (second.columns ∙ first.columns) at third.grows) symbols c.args.left.now c.args.right.now c.args.windows
    (record { one = c.loaded_row.new.known; other = c.loaded_row-2.new.known }) first.known second.known

pub returns-clause-row : goal.returns-clause-row
returns-clause-row g c =
    let symbols = g.C.Cell.symbols in
    let old = c.args.room.now in
    let one = c.loaded_row.new.room in
    let two = c.loaded_row-2.new.room in
    let new = c.number_of_union.new.room in
    let first = c.in_ok-one.ensures in
    let second = c.in_ok-other.ensures in
    let third = c.in_ok-both.ensures in
    pair_row old.columns (map symbols one.cells.items) (map symbols two.cells.items) (map symbols new.cells.items)
    one.rows two.rows new.rows one.unions two.unions new.unions first.grows.room (rw first.columns at second.grows)
    (rw (second.columns ∙ first.columns) at third.grows) symbols c.args.left.now c.args.right.now c.args.windows
    c.args.n c.args.m c.in_ok-one.one c.in_ok-other.other c.in_ok-both.both first.row second.row third.union
