-- The last pair, where it is of these rows.
use Rattle.quad_mat.proofs.PairLemmas.{pair_again}
use Rattle.std.proofs.Common.{map}
use Rattle.quad_mat.proofs.pairs.next_pair.Goals as goal

pub returns-in-Some-clause-row : goal.returns-in-Some-clause-row
returns-in-Some-clause-row g c =
    let symbols = g.C.Cell.symbols in
    let room = c.args.room.now in
    let same = c.in-Some.ensures in
    pair_again symbols c.args.left.now c.args.right.now c.args.windows (map symbols room.cells.items) room.rows
    c.args.last c.in-Some.pair c.args.n c.args.m same.0 same.1 same.2 c.requires.last
