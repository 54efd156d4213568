-- One more row.
use Rattle.std.proofs.Common.{arith}
use Rattle.std.proofs.lemmas.List.{length_push}
use Rattle.valiant.proofs.FillingLemmas.{rows_more}
use Rattle.valiant.proofs.filling.rows_of.Goals as goal

pub next_row-requires-clause-rows : goal.next_row-requires-clause-rows
next_row-requires-clause-rows g c κs within = rw c.as_slice.ensures c.loop.invariant.last

pub loop-preserved : goal.loop-preserved
loop-preserved g c =
    let rows = c.loop.rows in
    let row = c.in_ok-row.row in
    let next = rw c.as_slice.ensures at c.in_ok-row.ensures in
    rw c.in_ok-push.ensures.ok (record {
      count = rw (length_push rows row) (omega (arith, c.loop.invariant.count));
      last =
          rows_more g.C.Cell.symbols c.args.bin.now c.args.kinds.now rows row c.loop.invariant.last next.filled;
      empty = next.empty;
    })
