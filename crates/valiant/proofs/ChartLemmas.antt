-- What a chart tells of the rows that it keeps.
use Rattle.std.proofs.Common.{◌≡◌, ℕ, ◌+◌, ◌-◌, ◌<◌, ◌≤◌, List, [], Option, length, get_or, refl, ap, arith}
use Rattle.std.proofs.lemmas.Option.{slice_get_read}
use Rattle.std.proofs.lemmas.List.{get_or_read}
use Rattle.spec_grammar.specs.Grammars.{Grammar}
use Rattle.cell_sets.specs.Grids.{entry}
use Rattle.cell_sets.proofs.GridLemmas.{entry-grid_of}
use Rattle.valiant.specs.declared.rows.Entry.{Entry}
use Rattle.valiant.specs.Charts.{IsChartOf}
use Rattle.valiant.specs.Rows.{found, found_at, HasRisingEnds, chart_value, AreSpanRows}
use Rattle.valiant.specs.Filling.{AreLastRows}
use Rattle.valiant.proofs.FillingLemmas.{entry_of_row}

module _ {C : Type 0} (symbols : C → List ℕ) (kinds : List (Option ℕ)) (rows : List (List (Entry C))) where
  -- an entry of the chart is what the rows have
  chart_entry :
      (i j : ℕ) → i < j → j ≤ length kinds
      → entry (chart_value symbols kinds rows).entries i j ≡ found_at symbols (length kinds) rows i j
  chart_entry i j order within =
      entry-grid_of (length kinds) (length kinds + 1) (found_at symbols (length kinds) rows) i j
      (omega (arith, order, within)) (omega (arith, within))

  -- where each token's row has the symbols of all spans that begin with it, the chart stands for the kinds
  pub chart_exact :
      (g : Grammar)
      → length rows ≡ length kinds → AreLastRows symbols g kinds rows
      → IsChartOf g kinds (chart_value symbols kinds rows)
  chart_exact g count last = record {
    same_kinds = refl;
    exact = λ i j order within.
        rw (chart_entry i j order within)
        (entry_of_row symbols g kinds rows i j last (omega (arith, count, order, within)) order within);
  }

  module _ (are : AreSpanRows kinds rows) (row : List (Entry C)) (i j : ℕ) (order : i < j) (within : j ≤ length kinds)
      (is : row ≡ get_or rows (length kinds - i - 1) row) where
    -- the row of a token has rising ends
    pub rising_row : HasRisingEnds row
    rising_row =
        are.rising (length kinds - i - 1) row
        (slice_get_read rows (length rows) (length kinds - i - 1) row refl (omega (arith, are.count, order, within)) is)

    -- and has the chart's entries
    pub row_entry : found symbols row j ≡ entry (chart_value symbols kinds rows).entries i j
    row_entry =
        let read : row ≡ get_or rows (length kinds - i - 1) [] =
        get_or_read rows (length kinds - i - 1) row (omega (arith, are.count, order, within)) is [] in
        rw (chart_entry i j order within) (ap (λ (x : List (Entry C)). found symbols x j) read)
