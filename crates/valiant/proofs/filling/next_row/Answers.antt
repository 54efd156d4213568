-- The row of a token that nothing derives has no entries.
use Rattle.std.proofs.Common.{[], ◌≡◌, ◌+◌, ◌<◌, length, refl, arith}
use Rattle.valiant.specs.Filling.{next_token}
use Rattle.valiant.proofs.CutLemmas.{one_token_entry}
use Rattle.valiant.proofs.FillingLemmas.{row_empty}
use Rattle.valiant.proofs.filling.next_row.Goals as goal

pub returns-then-is_empty : goal.returns-then-is_empty
returns-then-is_empty g c =
    let symbols = g.C.Cell.symbols in
    let kinds = c.args.kinds.now in
    let rows = c.args.rows.now in
    let i = next_token kinds rows in
    let none : symbols c.token_cell.result.now ≡ [] = c.if-is_empty.ensures.items.0 refl in
    let within : i < length kinds = omega (arith, c.requires.short) in
    let token =
    one_token_entry c.args.bin.now c.requires.own_symbols kinds i (i + 1) [] [] within refl
    (rw none at c.token_cell.ensures) (λ n. ((λ has. has), (λ has. has))) in
    rw c.new.ensures (record {
      filled =
          row_empty symbols c.args.bin.now c.requires.own_symbols kinds rows c.requires.rows c.requires.short
          c.token_cell.result.now none token;
      empty = c.requires.empty;
    })
