-- The row of one token is filled end by end, from the cells to which its entries add their cuts.
use Rattle.std.proofs.Common.{◌≡◌, ℕ, zero, suc, ◌+◌, ◌-◌, ◌<◌, ◌≤◌, ◌⊎◌, List, [], ◌∷◌, ◌++◌, Option, Some, length, slice_get, get_or, set, refl, sym, ◌∙◌, subst, inl, inr, arith}
use Rattle.std.proofs.lemmas.Bool.{cases_lt}
use Rattle.std.proofs.lemmas.Option.{slice_get_within, slice_get-get_or, slice_get_read}
use Rattle.std.proofs.lemmas.List.{length-set, length_push}
use Rattle.spec_grammar.specs.Grammars.{Grammar, HasOwnSymbols}
use Rattle.valiant.specs.declared.rows.Entry.{Entry}
use Rattle.valiant.specs.Charts.{IsEntryOf}
use Rattle.valiant.specs.Rows.{found, HasRisingEnds}
use Rattle.valiant.specs.Filling.{IsRowUpTo, next_token, AreLastRows, IsOfEntries, AreEndsBelow, AddsCuts, AreEmpty, AreEmptyCells, AreFirstCells, AreCellsBehind}
use Rattle.valiant.proofs.FillingLemmas.{entries_none, entries_more, entries_all}
use Rattle.valiant.proofs.RowLemmas.{found_none}
use Rattle.valiant.proofs.CellLemmas.{get_set_same, get_set_other, stays_empty}

-- in a longer list the first places are as they were
get_append_left :
    {X : Type 0} (xs ys : List X) (k : ℕ) → k < length xs → slice_get (xs ++ ys) k ≡ slice_get xs k
get_append_left [] ys k within = absurd (omega arith)
get_append_left (x ∷ xs) ys zero within = refl
get_append_left (x ∷ xs) ys (suc k) within = get_append_left xs ys k (omega arith)

-- and the next place has what was put there
get_append_next :
    {X : Type 0} (xs : List X) (x : X) → slice_get (xs ++ x ∷ []) (length xs) ≡ Some x
get_append_next [] x = refl
get_append_next (y ∷ xs) x = get_append_next xs x

module _ {C : Type 0} (symbols : C → List ℕ) (g : Grammar) (kinds : List (Option ℕ)) where
  -- empty cells, with the token's cell at its end, are the first cells
  pub first_cells :
      (i : ℕ) (cells : List C) (cell : C)
      → length cells ≡ length kinds + 1 → AreEmpty symbols cells → i < length kinds
      → IsEntryOf g kinds i (i + 1) (symbols cell)
      → AreFirstCells symbols g kinds i (set cells (i + 1) cell)
  first_cells i cells cell count empty within is = record {
    count = length-set cells (i + 1) cell ∙ count;
    token = λ c is_c.
        let there = get_set_same cells (i + 1) cell (omega (arith, count, within)) in
        let same : cell ≡ c = cc in
        rw same at is;
    empty = λ j c other is_c. empty j c (sym (get_set_other cells (i + 1) j cell other) ∙ is_c);
  }

  module _ (rows : List (List (Entry C))) (last : AreLastRows symbols g kinds rows)
      (short : length rows < length kinds) where
    abbrev i : ℕ
    i = next_token kinds rows

    module _ (token : ℕ) (behind : List (Entry C)) (later : i < token)
        (row : token < length kinds → behind ≡ get_or rows (length kinds - token - 1) [])
        (none : length kinds ≤ token → behind ≡ []) where
      -- the row behind is that of its token, if there is one
      rows_behind :
          HasRisingEnds behind × AreEndsBelow (length kinds + 1) behind
          × ((k : ℕ) (d : Entry C) → k < length behind → token < (get_or behind k d).end)
      rows_behind =
          elim (cases_lt token (length kinds)) [
            | inl within ↦
                let place = length kinds - token - 1 in
                let is = last place (get_or rows place []) (slice_get-get_or rows place [] (omega arith)) in
                rw (row within) (
                  is.rising,
                  (λ k d below. (is.within k d below).1),
                  (λ k d below. omega (arith, within, (is.within k d below).0)),
                )
            | inr past ↦
                rw (none past) (
                  (λ m n d order within. absurd (omega arith)),
                  (λ k d within. absurd (omega arith)),
                  (λ k d within. absurd (omega arith)),
                )
          ]

      -- so its ends rise
      pub behind_rising : HasRisingEnds behind
      behind_rising = rows_behind.0

      -- and have cells
      pub behind_below : (cells : List C) → length cells ≡ length kinds + 1 → AreEndsBelow (length cells) behind
      behind_below cells count k d within = omega (arith, count, rows_behind.1 k d within)

      -- behind the token
      pub behind_after : (k : ℕ) (d : Entry C) → k < length behind → token < (get_or behind k d).end
      behind_after = rows_behind.2

    -- before the first span the cells are the first cells
    pub cells_start : (cells : List C) → AreFirstCells symbols g kinds i cells → AreCellsBehind symbols g kinds rows i [] i cells
    cells_start cells first = record {
      count = first.count;
      empty = λ j c up is. first.empty j c (λ at. omega (arith, up, at)) is;
      token = λ c here is. first.token c is;
      cuts = λ j c behind later is.
          rw (first.empty j c (λ at. omega (arith, later, at)) is) (entries_none symbols g (length kinds) rows [] j);
    }

    -- behind the last span all cells are empty
    pub cells_end :
        (row : List (Entry C)) (place : ℕ) (cells : List C)
        → length kinds ≤ place → AreCellsBehind symbols g kinds rows i row place cells
        → AreEmptyCells symbols (length kinds) cells
    cells_end row place cells all are = (
      are.count,
      (λ j c is. are.empty j c (omega (arith, are.count, slice_get_within cells j c is)) is),
    )

    module _ (row : List (Entry C)) (place : ℕ) (cells : List C) (from : i ≤ place) (within : place < length kinds)
        (are : AreCellsBehind symbols g kinds rows i row place cells) where
      -- the cell of the next end stands there
      cell_read : (c : C) → c ≡ get_or cells (place + 1) c → slice_get cells (place + 1) ≡ Some c
      cell_read c is_c =
          slice_get_read cells (length cells) (place + 1) c refl (omega (arith, are.count, within)) is_c

      -- the cell of the next end has what derives its span
      pub cell_entry :
          (c : C)
          → HasOwnSymbols g → IsRowUpTo symbols g kinds i (place + 1) row → c ≡ get_or cells (place + 1) c
          → IsEntryOf g kinds i (place + 1) (symbols c)
      cell_entry c own filled is_c =
          let read = cell_read c is_c in
          let side : (place ≡ i) ⊎ (i < place) = grind arith in
          elim side [
            | inl here ↦
                let At : ℕ → Type 0 = λ n. IsEntryOf g kinds i (n + 1) (symbols c) in
                let Read : ℕ → Type 0 = λ n. slice_get cells (n + 1) ≡ Some c in
                subst At (sym here) (are.token c here (subst Read here read))
            | inr behind ↦
                entries_all symbols g own kinds rows last short row (place + 1) filled (omega arith) (omega arith)
                (length row) (symbols c) (omega arith) (are.cuts (place + 1) c (omega arith) (omega arith) read)
          ]

      -- where the next cell is empty, the cells stay as they are
      pub cells_kept :
          (cell : C)
          → cell ≡ get_or cells (place + 1) cell → symbols cell ≡ []
          → AreCellsBehind symbols g kinds rows i row (place + 1) cells
      cells_kept cell is_cell none = record {
        count = are.count;
        empty = empty;
        token = λ c here is. absurd (omega (arith, here));
        cuts = λ j c behind later is. are.cuts j c (omega arith) later is;
      }
        where
          empty : (j : ℕ) (c : C) → j ≤ place + 1 → slice_get cells j ≡ Some c → symbols c ≡ []
          empty j c up is = elim (cases_lt j (place + 1)) [
            | inl earlier ↦ are.empty j c (omega (arith, earlier)) is
            | inr later ↦
                let at : j ≡ place + 1 = omega (arith, up, later) in
                let At : ℕ → Type 0 = λ m. slice_get cells m ≡ Some c in
                let here : slice_get cells (place + 1) ≡ Some c = subst At at is in
                let there = cell_read cell is_cell in
                let same : cell ≡ c = cc in
                rw same at none
          ]

      -- where it is not, they get the cuts at the end of its entry, and an empty cell stands in its
      -- place
      pub cells_more :
          (cell other : C) (behind : List (Entry C)) (new : List C)
          → symbols other ≡ []
          → (place + 1 < length kinds → behind ≡ get_or rows (length kinds - (place + 1) - 1) [])
          → ((k : ℕ) (d : Entry C) → k < length behind → place + 1 < (get_or behind k d).end)
          → AddsCuts symbols g (symbols cell) behind (set cells (place + 1) other) new
          → AreCellsBehind symbols g kinds rows i (row ++ record { end = place + 1; cell = cell } ∷ []) (place + 1) new
      cells_more cell other behind new none is_row after adds = record {
        count = adds.count ∙ length-set cells (place + 1) other ∙ are.count;
        empty = empty;
        token = λ c here is. absurd (omega (arith, here));
        cuts = cuts;
      }
        where
          -- up to the next end the cells are empty before the cuts
          emptied : (j : ℕ) (c : C) → j ≤ place + 1 → slice_get (set cells (place + 1) other) j ≡ Some c → symbols c ≡ []
          emptied j c up is = elim (cases_lt j (place + 1)) [
            | inl earlier ↦
                let stays = get_set_other cells (place + 1) j other (λ at. omega (arith, earlier, at)) in
                are.empty j c (omega (arith, earlier)) (sym stays ∙ is)
            | inr later ↦
                let at : j ≡ place + 1 = omega (arith, up, later) in
                let At : ℕ → Type 0 = λ m. slice_get (set cells (place + 1) other) m ≡ Some c in
                let here : slice_get (set cells (place + 1) other) (place + 1) ≡ Some c = subst At at is in
                let there = get_set_same cells (place + 1) other (omega (arith, are.count, within)) in
                let same : other ≡ c = cc in
                rw same at none
          ]

          -- and after them, since no cut is of a span up to it
          empty : (j : ℕ) (c : C) → j ≤ place + 1 → slice_get new j ≡ Some c → symbols c ≡ []
          empty j c up is =
              let below : j < length new = slice_get_within new j c is in
              let old : List C = set cells (place + 1) other in
              let d = get_or old j c in
              let is_d : slice_get old j ≡ Some d = slice_get-get_or old j c (omega (arith, adds.count, below)) in
              let nothing : found symbols behind j ≡ [] =
              found_none symbols behind j (λ k x inside at. omega (arith, after k x inside, at, up)) in
              stays_empty g (symbols cell) (symbols d) (symbols c) (emptied j d up is_d)
              (rw nothing at (adds.each j d c is_d is))

          e : Entry C
          e = record { end = place + 1; cell = cell }

          -- the entries so far give what they gave
          so_far :
              (j : ℕ) (numbers : List ℕ)
              → IsOfEntries symbols g (length kinds) rows row j (length row) numbers
              → IsOfEntries symbols g (length kinds) rows (row ++ record { end = place + 1; cell = cell } ∷ []) j (length row) numbers
          so_far j numbers before n = (
            (λ has.
                let x = (before n).0 has in
                (x.0, x.1, (x.2.0, get_append_left row _ x.0 x.1 ∙ x.2.1, x.2.2))),
            (λ x. (before n).1 (x.0, x.1, (x.2.0, sym (get_append_left row _ x.0 x.1) ∙ x.2.1, x.2.2))),
          )

          cuts :
              (j : ℕ) (c : C) → place + 1 < j → i + 1 < j → slice_get new j ≡ Some c
              → IsOfEntries symbols g (length kinds) rows (row ++ record { end = place + 1; cell = cell } ∷ []) j
              (length (row ++ record { end = place + 1; cell = cell } ∷ [])) (symbols c)
          cuts j c after later is_c =
              let below : j < length new = slice_get_within new j c is_c in
              let d = get_or cells j c in
              let longer = length-set cells (place + 1) other in
              let is_d : slice_get cells j ≡ Some d = slice_get-get_or cells j c (omega (arith, adds.count, longer, below)) in
              let next : place + 1 < length kinds = omega (arith, adds.count, longer, are.count, below, after) in
              let stays = get_set_other cells (place + 1) j other (λ at. omega (arith, after, at)) in
              let added = rw (is_row next) at (adds.each j d c (stays ∙ is_d) is_c) in
              let before = so_far j (symbols d) (are.cuts j d (omega arith) later is_d) in
              rw (length_push row (record { end = place + 1; cell = cell }))
              (entries_more symbols g (length kinds) rows (row ++ record { end = place + 1; cell = cell } ∷ []) j
              (length row) (record { end = place + 1; cell = cell }) (symbols d) (symbols c)
              (get_append_next row (record { end = place + 1; cell = cell })) added before)
