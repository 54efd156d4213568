-- Serves the proofs alone. How far the rows of a chart are filled, and what each step adds.
use Rattle.std.specs.Prelude.{◌≡◌, ℕ, ◌+◌, ◌-◌, ◌<◌, ◌≤◌, ◌≢◌, ◌↔◌, ◌⊎◌, List, [], ◌∷◌, ◌++◌, Option}
use Rattle.std.specs.Prelude.{Some, Contains}
use Rattle.std.specs.Prelude.{length, slice_get, slice_index_or}
use Rattle.spec_grammar.specs.Grammars.{Grammar}
use Rattle.binary_form.specs.BinaryForm.{IsProductNumber, AddsProductOf}
use Rattle.valiant.specs.declared.rows.Entry.{Entry}
use Rattle.valiant.specs.Charts.{IsEntryOf}
use Rattle.valiant.specs.Rows.{found, found_at, HasRisingEnds}

-- the row has just the symbols of each span that begins with token i and ends below the limit
pub record IsRowUpTo {C : Type 0} (symbols : C → List ℕ) (g : Grammar) (kinds : List (Option ℕ))
    (i limit : ℕ) (row : List (Entry C)) : Type 0 where
  pub rising : HasRisingEnds row
  pub within :
      (k : ℕ) (d : Entry C) → k < length row
      → (i < (slice_index_or row k d).end) × ((slice_index_or row k d).end < limit)
  pub exact : (j : ℕ) → i < j → j < limit → IsEntryOf g kinds i j (found symbols row j)

-- the token whose row comes next, after those of the tokens behind it
abbrev pub next_token : {C : Type 0} → List (Option ℕ) → List (List (Entry C)) → ℕ
next_token kinds rows = length kinds - length rows - 1

-- the rows are those of the last tokens, each with the symbols of all spans from its token on
abbrev pub AreLastRows : {C : Type 0} → (C → List ℕ) → Grammar → List (Option ℕ)
    → List (List (Entry C)) → Type 0
AreLastRows {C} symbols g kinds rows =
    (k : ℕ) (row : List (Entry C)) → slice_get rows k ≡ Some row
    → IsRowUpTo symbols g kinds (length kinds - k - 1) (length kinds + 1) row

-- the two lists have the same numbers
abbrev pub HasSame : List ℕ → List ℕ → Type 0
HasSame one other = (n : ℕ) → Contains other n ↔ Contains one n

-- the cut at the end of the row's entry k, in the span up to this end, gives the number
abbrev pub IsOfEntry : {C : Type 0} → (C → List ℕ) → Grammar → ℕ → List (List (Entry C))
    → List (Entry C) → ℕ → ℕ → ℕ → Type 0
IsOfEntry {C} symbols g count rows row end k n =
    (e : Entry C) × (slice_get row k ≡ Some e)
    × IsProductNumber g (symbols e.cell) (found_at symbols count rows e.end end) n

-- the cell has just what the cuts at the ends of the row's first entries give, so many of them
abbrev pub IsOfEntries : {C : Type 0} → (C → List ℕ) → Grammar → ℕ → List (List (Entry C))
    → List (Entry C) → ℕ → ℕ → List ℕ → Type 0
IsOfEntries symbols g count rows row end many cell =
    (n : ℕ) → Contains cell n ↔ ((k : ℕ) × (k < many) × IsOfEntry symbols g count rows row end k n)

-- the new row has the cell behind the old one's entries, if the cell has symbols
abbrev pub AddsEntry : {C : Type 0} → (C → List ℕ) → List (Entry C) → ℕ → C → List (Entry C)
    → Type 0
AddsEntry symbols old end cell new =
    ((symbols cell ≡ []) × (new ≡ old)) ⊎ (new ≡ old ++ record { end = end; cell = cell } ∷ [])

-- each end of the row is below the count
abbrev pub AreEndsBelow : {C : Type 0} → ℕ → List (Entry C) → Type 0
AreEndsBelow {C} count row =
    (k : ℕ) (d : Entry C) → k < length row → (slice_index_or row k d).end < count

-- the cell at the entry's end gets the product of the list and the entry, and no other changes
pub record AddsCut {C : Type 0} (symbols : C → List ℕ) (g : Grammar) (left : List ℕ)
    (e : Entry C) (old new : List C) : Type 0 where
  pub count : length new ≡ length old
  pub at : (c d : C) → slice_get old e.end ≡ Some c → slice_get new e.end ≡ Some d
      → AddsProductOf g left (symbols e.cell) (symbols c) (symbols d)
  pub others : (j : ℕ) → j ≢ e.end → slice_get new j ≡ slice_get old j

-- the cell of each end gets the product of the list and what the row has for the end
pub record AddsCuts {C : Type 0} (symbols : C → List ℕ) (g : Grammar) (left : List ℕ)
    (behind : List (Entry C)) (old new : List C) : Type 0 where
  pub count : length new ≡ length old
  pub each : (j : ℕ) (c d : C) → slice_get old j ≡ Some c → slice_get new j ≡ Some d
      → AddsProductOf g left (found symbols behind j) (symbols c) (symbols d)

-- no cell has symbols
abbrev pub AreEmpty : {C : Type 0} → (C → List ℕ) → List C → Type 0
AreEmpty {C} symbols cells = (j : ℕ) (c : C) → slice_get cells j ≡ Some c → symbols c ≡ []

-- each end of so many tokens has a cell, and no cell has symbols
abbrev pub AreEmptyCells : {C : Type 0} → (C → List ℕ) → ℕ → List C → Type 0
AreEmptyCells symbols tokens cells = (length cells ≡ tokens + 1) × AreEmpty symbols cells

-- each end has a cell: that of token i has what derives the token, and the others are empty
pub record AreFirstCells {C : Type 0} (symbols : C → List ℕ) (g : Grammar)
    (kinds : List (Option ℕ)) (i : ℕ) (cells : List C) : Type 0 where
  pub count : length cells ≡ length kinds + 1
  pub token : (c : C) → slice_get cells (i + 1) ≡ Some c → IsEntryOf g kinds i (i + 1) (symbols c)
  pub empty : (j : ℕ) (c : C) → j ≢ i + 1 → slice_get cells j ≡ Some c → symbols c ≡ []

-- each end has a cell, those up to the place are empty, and behind it that of token i has what
-- derives the token, and the others have what the cuts at the ends of the row's entries give
pub record AreCellsBehind {C : Type 0} (symbols : C → List ℕ) (g : Grammar)
    (kinds : List (Option ℕ)) (rows : List (List (Entry C))) (i : ℕ) (row : List (Entry C))
    (place : ℕ) (cells : List C) : Type 0 where
  pub count : length cells ≡ length kinds + 1
  pub empty : (j : ℕ) (c : C) → j ≤ place → slice_get cells j ≡ Some c → symbols c ≡ []
  pub token : (c : C) → place ≡ i → slice_get cells (i + 1) ≡ Some c
      → IsEntryOf g kinds i (i + 1) (symbols c)
  pub cuts : (j : ℕ) (c : C) → place < j → i + 1 < j → slice_get cells j ≡ Some c
      → IsOfEntries symbols g (length kinds) rows row j (length row) (symbols c)

-- the row is that of the next token, and the cells are empty
pub record IsNextRow {C : Type 0} (symbols : C → List ℕ) (g : Grammar) (kinds : List (Option ℕ))
    (rows : List (List (Entry C))) (row : List (Entry C)) (cells : List C) : Type 0 where
  pub filled : IsRowUpTo symbols g kinds (next_token kinds rows) (length kinds + 1) row
  pub empty : AreEmptyCells symbols (length kinds) cells
