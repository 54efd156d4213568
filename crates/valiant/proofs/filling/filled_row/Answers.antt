-- The first cells, one more span with symbols or without, and all spans.
use Rattle.std.proofs.Common.{ℕ, [], ◌≡◌, ◌+◌, ◌<◌, ◌≤◌, length, length-set, get_or, refl, sym, ◌∙◌, inl, inr, subst, arith}
use Rattle.valiant.specs.Filling.{IsRowUpTo, next_token}
use Rattle.valiant.proofs.FillingLemmas.{row_none, row_more}
use Rattle.valiant.proofs.NextRowLemmas.{behind_rising, behind_below, behind_after, cells_start, cells_end, cell_entry, cells_kept, cells_more}
use Rattle.valiant.proofs.filling.filled_row.Goals as goal

pub loop-last-init : goal.loop-last-init
loop-last-init g c =
    let symbols = g.C.Cell.symbols in
    let i = next_token c.args.kinds.now c.args.rows.now in
    rw c.new-row.ensures (record {
      row = row_none symbols c.args.bin.now c.args.kinds.now i;
      cells =
          cells_start symbols c.args.bin.now c.args.kinds.now c.args.rows.now c.requires.rows c.requires.short
          c.in_ok-cells.cells.items c.in_ok-cells.ensures;
    })

pub loop-last-preserved-then-is_empty : goal.loop-last-preserved-then-is_empty
loop-last-preserved-then-is_empty g c =
    let symbols = g.C.Cell.symbols in
    let kinds = c.args.kinds.now in
    let rows = c.args.rows.now in
    let i = next_token kinds rows in
    let last = c.loop-last.last in
    let from : i ≤ last = omega (arith, c.loop-last.auto.last) in
    let within : last < length kinds = omega (arith, c.loop-last-test.true) in
    let is =
    cell_entry symbols c.args.bin.now kinds rows c.requires.rows c.requires.short c.loop-last.row last
    c.loop-last.cells.items from within c.loop-last.invariant.cells c.index.result.now c.requires.own_symbols
    c.loop-last.invariant.row c.index.ensures in
    record {
      row =
          row_more symbols c.args.bin.now kinds i (last + 1) c.loop-last.row c.loop-last.row c.index.result.now
          c.loop-last.invariant.row (omega (arith, from)) is (inl (c.if-is_empty.ensures.items.0 refl, refl));
      cells =
          cells_kept symbols c.args.bin.now kinds rows c.requires.rows c.requires.short c.loop-last.row last
          c.loop-last.cells.items from within c.loop-last.invariant.cells c.index.result.now c.index.ensures
          (c.if-is_empty.ensures.items.0 refl);
    }

pub with_cuts-requires-clause-rising : goal.with_cuts-requires-clause-rising
with_cuts-requires-clause-rising g c κs loop =
    let symbols = g.C.Cell.symbols in
    let later : next_token c.args.kinds.now c.args.rows.now < c.loop-last.last + 1 = omega (arith, c.loop-last.auto.last) in
    behind_rising symbols c.args.bin.now c.args.kinds.now c.args.rows.now c.requires.rows c.requires.short
    (c.loop-last.last + 1) c.row_behind-behind.result.now later c.row_behind-behind.ensures.row
    c.row_behind-behind.ensures.none

pub with_cuts-requires-clause-below : goal.with_cuts-requires-clause-below
with_cuts-requires-clause-below g c κs loop =
    let symbols = g.C.Cell.symbols in
    let later : next_token c.args.kinds.now c.args.rows.now < c.loop-last.last + 1 = omega (arith, c.loop-last.auto.last) in
    behind_below symbols c.args.bin.now c.args.kinds.now c.args.rows.now c.requires.rows c.requires.short
    (c.loop-last.last + 1) c.row_behind-behind.result.now later c.row_behind-behind.ensures.row
    c.row_behind-behind.ensures.none _
    (length-set c.loop-last.cells.items (c.loop-last.last + 1) c.replace-cell.new.dest ∙ c.loop-last.invariant.cells.count)

pub loop-last-preserved : goal.loop-last-preserved
loop-last-preserved g c =
    let symbols = g.C.Cell.symbols in
    let kinds = c.args.kinds.now in
    let rows = c.args.rows.now in
    let i = next_token kinds rows in
    let last = c.loop-last.last in
    let from : i ≤ last = omega (arith, c.loop-last.auto.last) in
    let within : last < length kinds = omega (arith, c.loop-last-test.true) in
    let cell = c.replace-cell.result in
    let read = subst (λ x. x ≡ get_or c.loop-last.cells.items (last + 1) x) (sym c.replace-cell.ensures.value) c.index_mut.ensures.value in
    let is =
    cell_entry symbols c.args.bin.now kinds rows c.requires.rows c.requires.short c.loop-last.row last
    c.loop-last.cells.items from within c.loop-last.invariant.cells cell c.requires.own_symbols
    c.loop-last.invariant.row read in
    let none : symbols c.replace-cell.new.dest ≡ [] = rw c.replace-cell.ensures.after c.empty.ensures.items in
    let after =
    behind_after symbols c.args.bin.now kinds rows c.requires.rows c.requires.short (last + 1)
    c.row_behind-behind.result.now (omega (arith, from)) c.row_behind-behind.ensures.row
    c.row_behind-behind.ensures.none in
    rw c.in_ok-push.ensures.ok (record {
      row =
          row_more symbols c.args.bin.now kinds i (last + 1) c.loop-last.row _ cell
          c.loop-last.invariant.row (omega (arith, from)) is (inr refl);
      cells =
          cells_more symbols c.args.bin.now kinds rows c.requires.rows c.requires.short c.loop-last.row last
          c.loop-last.cells.items from within c.loop-last.invariant.cells cell c.replace-cell.new.dest
          c.row_behind-behind.result.now c.in_ok-cells-2.cells.items none c.row_behind-behind.ensures.row after
          c.in_ok-cells-2.ensures;
    })

pub returns : goal.returns
returns g c =
    let i = next_token c.args.kinds.now c.args.rows.now in
    let UpTo : ℕ → Type 0 = λ last. IsRowUpTo g.C.Cell.symbols c.args.bin.now c.args.kinds.now i (last + 1) c.loop-last.row in
    let end : c.loop-last.last ≡ length c.args.kinds.now = omega (arith, c.loop-last.auto, c.loop-last-test.false, c.requires.short) in
    record {
      filled = subst UpTo end c.loop-last.invariant.row;
      empty =
          cells_end g.C.Cell.symbols c.args.bin.now c.args.kinds.now c.args.rows.now c.requires.rows c.requires.short
          c.loop-last.row c.loop-last.last c.loop-last.cells.items (omega (arith, end)) c.loop-last.invariant.cells;
    }
