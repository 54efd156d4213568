-- By the row of the number.
use Rattle.quad_mat.proofs.mat.cell_in.Goals as goal

pub cell_at-requires-clause-rising : goal.cell_at-requires-clause-rising
cell_at-requires-clause-rising g c κs within =
    rw c.row_in-row.ensures (c.requires.source.rising _ (c.requires.numbers c.args.i c.requires.row))

pub cell_at-requires-clause-known : goal.cell_at-requires-clause-known
cell_at-requires-clause-known g c κs within =
    rw (c.as_slice-cells.ensures.value, c.row_in-row.ensures)
    (c.requires.source.known _ (c.requires.numbers c.args.i c.requires.row))
