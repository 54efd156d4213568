-- Serves the proofs alone. The entries that a chart keeps: for each token the row of those that
-- begin with it and are not empty, in the order of their ends. The row of the last token stands
-- first.
use Rattle.std.specs.Prelude.{◌≡◌, ℕ, ◌+◌, ◌-◌, ◌<◌, ◌≤◌, ◌≢◌, List, [], ◌∷◌, Option, Some, None}
use Rattle.std.specs.Prelude.{if◌then◌else◌, ◌==◌, length, slice_get, slice_index_or, Result}
use Rattle.std.specs.Prelude.{MatchResult}
use Rattle.std.specs.declared.alloc.Global.{Global}
use Rattle.std.specs.declared.sync.Arc.{Arc}
use Rattle.cell_sets.specs.Grids.{grid_of}
use Rattle.valiant.specs.declared.rows.Entry.{Entry}
use Rattle.valiant.specs.Charts.{ChartValue, spine, leaf_chart}

-- the symbols that the row has for the span up to this end
abbrev pub found : {C : Type 0} → (C → List ℕ) → List (Entry C) → ℕ → List ℕ
found symbols [] end = []
found symbols (e ∷ row) end = if e.end == end then symbols e.cell else found symbols row end

-- each end is below those behind it
abbrev pub HasRisingEnds : {C : Type 0} → List (Entry C) → Type 0
HasRisingEnds {C} row =
    (m n : ℕ) (d : Entry C) → m < n → n < length row
    → (slice_index_or row m d).end < (slice_index_or row n d).end

-- the entry up to this end stands at the place, or the row has none
abbrev pub IsEntryPlace : {C : Type 0} → List (Entry C) → ℕ → Result ℕ ℕ → Type 0
IsEntryPlace {C} row end place = MatchResult place
    (λ at. (at < length row) × ((d : Entry C) → (slice_index_or row at d).end ≡ end))
    (λ _. (k : ℕ) (d : Entry C) → k < length row → (slice_index_or row k d).end ≢ end)

-- the symbols that the rows of a text of n tokens have for the span from token k up to this end
abbrev pub found_at : {C : Type 0} → (C → List ℕ) → ℕ → List (List (Entry C)) → ℕ → ℕ → List ℕ
found_at symbols n rows k end = found symbols (slice_index_or rows (n - k - 1) []) end

-- a chart of these kinds whose entries are those of the rows
abbrev pub chart_value : {C : Type 0} → (C → List ℕ) → List (Option ℕ) → List (List (Entry C))
    → ChartValue
chart_value symbols kinds rows = record {
  kinds = kinds;
  height = length kinds;
  shape = spine (length kinds);
  entries = grid_of (length kinds) (length kinds + 1) (found_at symbols (length kinds) rows);
}

-- each token has its row, with rising ends
pub record AreSpanRows {C : Type 0} (kinds : List (Option ℕ)) (rows : List (List (Entry C)))
    : Type 0 where
  pub few : length kinds ≤ 16384
  pub count : length rows ≡ length kinds
  pub rising : (k : ℕ) (row : List (Entry C)) → slice_get rows k ≡ Some row → HasRisingEnds row

-- a chart that is shared, and that of no tokens where there is none
abbrev pub shared_chart : Option (Arc ChartValue Global) → ChartValue
shared_chart None = leaf_chart
shared_chart (Some shared) = shared.value
