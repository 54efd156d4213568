-- Rows that are filled: each step keeps what they have, and all cuts of a span are those at a row's entries.
use Rattle.std.proofs.Common.{below_more, ◌≡◌, ℕ, zero, suc, ◌+◌, ◌-◌, ◌<◌, ◌≤◌, ◌≢◌, List, [], ◌∷◌, ◌++◌, Option, Some, length, slice_get, get_or, refl, sym, subst, inl, inr, arith, Contains}
use Rattle.std.proofs.lemmas.Bool.{cases_lt}
use Rattle.std.proofs.lemmas.Option.{slice_get_within, get_or_from_slice_get, slice_get-get_or}
use Rattle.spec_grammar.specs.Grammars.{Grammar, HasOwnSymbols}
use Rattle.binary_form.specs.Symbols.{BinarySymbol, BinaryDerives}
use Rattle.binary_form.specs.BinaryForm.{IsNumberOf, IsProductNumber, AddsProductOf}
use Rattle.binary_form.proofs.BuildLemmas.{each_pushed}
use Rattle.binary_form.proofs.ClosureLemmas.{closure_is_derivation}
use Rattle.valiant.specs.declared.rows.Entry.{Entry}
use Rattle.valiant.specs.Charts.{IsEntryOf}
use Rattle.valiant.specs.Rows.{found, found_at}
use Rattle.valiant.specs.Filling.{IsRowUpTo, next_token, AreLastRows, IsOfEntry, IsOfEntries, AddsEntry}
use Rattle.valiant.proofs.RowLemmas.{StandsAt, found_none, found_entry, entry_found, found_push_other, found_push_same, within_push, rising_push}
use Rattle.valiant.proofs.CutLemmas.{product_derived, derived_product}

module _ {C : Type 0} (symbols : C → List ℕ) (g : Grammar) where
  module _ (count : ℕ) (rows : List (List (Entry C))) (row : List (Entry C)) (end : ℕ) where
    -- no entries give nothing
    pub entries_none : IsOfEntries symbols g count rows row end 0 []
    entries_none n = ((λ has. absurd (omega (arith, has.1))), (λ x. absurd (omega (arith, x.1))))

    -- with the cut at the end of one more entry
    pub entries_more :
        (many : ℕ) (e : Entry C) (old new : List ℕ)
        → slice_get row many ≡ Some e
        → AddsProductOf g (symbols e.cell) (found_at symbols count rows e.end end) old new
        → IsOfEntries symbols g count rows row end many old
        → IsOfEntries symbols g count rows row end (many + 1) new
    entries_more many e old new is adds before n = (to, from)
      where
        to : Contains new n → (k : ℕ) × (k < many + 1) × IsOfEntry symbols g count rows row end k n
        to has = elim ((adds n).0 has) [
          | inl kept ↦
              let x = (before n).0 kept in
              (x.0, omega (arith, x.1), x.2)
          | inr made ↦ (many, omega arith, (e, is, made))
        ]

        from : (k : ℕ) × (k < many + 1) × IsOfEntry symbols g count rows row end k n → Contains new n
        from (k, below, (d, is_d, made)) = elim (cases_lt k many) [
          | inl earlier ↦ (adds n).1 (inl ((before n).1 (k, earlier, (d, is_d, made))))
          | inr later ↦
              let last : k ≡ many = omega arith in
              let At : ℕ → Type 0 = λ m. slice_get row m ≡ Some d in
              let is_last : slice_get row many ≡ Some d = subst At last is_d in
              let same : d ≡ e = cc in
              (adds n).1 (inr (rw same at made))
        ]

  -- the row of a token has the symbols of each span that begins with it
  pub entry_of_row :
      (kinds : List (Option ℕ)) (rows : List (List (Entry C))) (k end : ℕ)
      → AreLastRows symbols g kinds rows → length kinds - k - 1 < length rows → k < end → end ≤ length kinds
      → IsEntryOf g kinds k end (found_at symbols (length kinds) rows k end)
  entry_of_row kinds rows k end last is_row order within =
      let place = length kinds - k - 1 in
      let is = last place (get_or rows place []) (slice_get-get_or rows place [] is_row) in
      let token : length kinds - place - 1 ≡ k = omega arith in
      let P : ℕ → Type 0 = λ i. IsEntryOf g kinds i end (found_at symbols (length kinds) rows k end) in
      subst P token (is.exact end (omega arith) (omega arith))

  module _ (own : HasOwnSymbols g) (kinds : List (Option ℕ)) (rows : List (List (Entry C)))
      (last : AreLastRows symbols g kinds rows) (short : length rows < length kinds) where
    module _ (row : List (Entry C)) (end : ℕ) (filled : IsRowUpTo symbols g kinds (next_token kinds rows) end row)
        (later : next_token kinds rows + 1 < end) (within : end ≤ length kinds) where
      abbrev i : ℕ
      i = next_token kinds rows

      -- the entry is that of a shorter span
      within_entry : (at : ℕ) (e : Entry C) → slice_get row at ≡ Some e → (i < e.end) × (e.end < end)
      within_entry at e is =
          let same : get_or row at e ≡ e = get_or_from_slice_get row at e e is in
          rw same at (filled.within at e (slice_get_within row at e is))

      -- a cut at an entry's end gives what derives the span
      given_derives :
          (at n : ℕ)
          → IsOfEntry symbols g (length kinds) rows row end at n
          → (a : BinarySymbol) × IsNumberOf g a n × BinaryDerives g.rules kinds a i end
      given_derives at n (e, is, made) =
          let bounds = within_entry at e is in
          let a = made.4.reaches.0 in
          let number = made.4.reaches.1 in
          let left : IsEntryOf g kinds i e.end (symbols e.cell) =
          rw (found_entry symbols row at e filled.rising is) at (filled.exact e.end bounds.0 bounds.1) in
          let right = entry_of_row kinds rows e.end end last (omega (arith, bounds.0, bounds.1)) bounds.1 within in
          let Made : ℕ → Type 0 = λ m. IsProductNumber g (symbols e.cell) (found_at symbols (length kinds) rows e.end end) m in
          let product =
          product_derived g own kinds i e.end end (symbols e.cell) (found_at symbols (length kinds) rows e.end end)
          left right bounds.1 a number.0 (subst Made (sym number.1) made) in
          (a, number, (closure_is_derivation g.rules kinds a i end (omega arith)).1 (inr (e.end, bounds.0, bounds.1, product)))

      -- the product at a cut gives the number
      abbrev Made : ℕ → ℕ → Type 0
      Made k n = IsProductNumber g (found symbols row k) (found_at symbols (length kinds) rows k end) n

      -- what a cut gives, the entry at its place gives
      entry_gives :
          (k at n : ℕ)
          → StandsAt symbols row k at → Made k n → IsOfEntry symbols g (length kinds) rows row end at n
      entry_gives k at n x made = (x.e, x.is, subst Gives (sym x.same_end) (rw x.same_symbols at made))
        where
          Gives : ℕ → Type 0
          Gives m = IsProductNumber g (symbols (x.e).cell) (found_at symbols (length kinds) rows m end) n

      -- what derives the span is given by a cut at an entry's end
      derives_given :
          (n : ℕ) (a : BinarySymbol)
          → IsNumberOf g a n → BinaryDerives g.rules kinds a i end
          → (at : ℕ) × (at < length row) × IsOfEntry symbols g (length kinds) rows row end at n
      derives_given n a number derives = elim ((closure_is_derivation g.rules kinds a i end (omega arith)).0 derives) [
        | inl token ↦ absurd (omega (arith, token.2))
        | inr (k, after, before, product) ↦
            let right = entry_of_row kinds rows k end last (omega (arith, after, before)) before within in
            let made =
            derived_product g own kinds i k end (found symbols row k) (found_at symbols (length kinds) rows k end)
            (filled.exact k after before) right before a number.0 product in
            let x = entry_found symbols row k made.0 made.2 in
            let at_number = subst (Made k) number.1 made in
            (x.0, slice_get_within row x.0 x.1.e x.1.is, entry_gives k x.0 n x.1 at_number)
      ]

      -- the cuts at the ends of all entries give just what derives the span
      pub entries_all :
          (many : ℕ) (cell : List ℕ)
          → length row ≤ many → IsOfEntries symbols g (length kinds) rows row end many cell
          → IsEntryOf g kinds i end cell
      entries_all many cell all is n = (
        (λ has. let x = (is n).0 has in given_derives x.0 n x.2),
        (λ x.
            let y = derives_given n x.0 x.1 x.2 in
            (is n).1 (y.0, omega (arith, y.1), y.2)),
      )

  module _ (kinds : List (Option ℕ)) where
    -- a row without entries has the spans that end at its token's place
    pub row_none : (i : ℕ) → IsRowUpTo {C = C} symbols g kinds i (i + 1) []
    row_none i = record {
      rising = λ m n d order within. absurd (omega arith);
      within = λ k d within. absurd (omega arith);
      exact = λ j after before. absurd (omega arith);
    }

    module _ (i limit : ℕ) (row new : List (Entry C)) (cell : C) (filled : IsRowUpTo symbols g kinds i limit row)
        (order : i < limit) (is : IsEntryOf g kinds i limit (symbols cell)) where
      abbrev e : Entry C
      e = record { end = limit; cell = cell }

      -- no entry has the limit as its end
      none_at : (k : ℕ) (d : Entry C) → k < length row → (get_or row k d).end ≢ limit
      none_at k d within same = omega (arith, (filled.within k d within).1, same)

      -- for an end behind the token, these entries have just the symbols of the span
      abbrev HasEntry : List (Entry C) → ℕ → Type 0
      HasEntry entries j = i < j → IsEntryOf g kinds i j (found symbols entries j)

      -- a row stays as it is where the next cell is empty
      row_kept : symbols cell ≡ [] → IsRowUpTo symbols g kinds i (limit + 1) row
      row_kept empty = record {
        rising = filled.rising;
        within = λ k d within. ((filled.within k d within).0, omega (arith, (filled.within k d within).1));
        exact = λ j after before.
            below_more (HasEntry row) limit (λ m below later. filled.exact m later below)
            (λ _. rw (found_none symbols row limit none_at) (rw empty at is)) j before after;
      }

      -- and gets the next cell as its last entry where it is not
      row_pushed : IsRowUpTo symbols g kinds i (limit + 1) (row ++ e ∷ [])
      row_pushed = record {
        rising = rising_push row e i limit refl filled.within filled.rising;
        within = within_push row e i limit refl filled.within order;
        exact = λ j after before.
            below_more (HasEntry (row ++ e ∷ [])) limit
            (λ m below later.
            rw (found_push_other symbols row e m (λ same. omega (arith, below, same))) (filled.exact m later below))
            (λ _. rw (found_push_same symbols row e none_at) is) j before after;
      }

      -- a row that goes on with the next cell has the spans up to the next limit
      pub row_more : AddsEntry symbols row limit cell new → IsRowUpTo symbols g kinds i (limit + 1) new
      row_more (inl (empty, same)) = rw same (row_kept empty)
      row_more (inr same) = rw same row_pushed

    -- the rows go on with that of the next token
    pub rows_more :
        (rows : List (List (Entry C))) (row : List (Entry C))
        → AreLastRows symbols g kinds rows
        → IsRowUpTo symbols g kinds (next_token kinds rows) (length kinds + 1) row
        → AreLastRows symbols g kinds (rows ++ row ∷ [])
    rows_more rows row before it =
        let Is : ℕ → List (Entry C) → Type 0 =
        λ k (x : List (Entry C)). IsRowUpTo symbols g kinds (length kinds - k - 1) (length kinds + 1) x in
        each_pushed Is rows row before it

  -- a token that nothing derives, with the rows behind it
  module _ (own : HasOwnSymbols g) (kinds : List (Option ℕ)) (rows : List (List (Entry C)))
      (last : AreLastRows symbols g kinds rows) (short : length rows < length kinds) (cell : C)
      (none : symbols cell ≡ []) (token : IsEntryOf g kinds (next_token kinds rows) (next_token kinds rows + 1) []) where
    -- the next span is derived by nothing either, as no cut of it has a part
    none_up_to :
        (end : ℕ)
        → next_token kinds rows < end → end ≤ length kinds
        → IsRowUpTo symbols g kinds (next_token kinds rows) end []
        → IsEntryOf g kinds (next_token kinds rows) end []
    none_up_to end behind within filled = elim (cases_lt (next_token kinds rows + 1) end) [
      | inl later ↦
          entries_all own kinds rows last short [] end filled later within 0 [] (omega arith)
          (entries_none (length kinds) rows [] end)
      | inr one ↦
          let At : ℕ → Type 0 = λ n. IsEntryOf g kinds (next_token kinds rows) n [] in
          subst At (omega (arith, behind, one)) token
    ]

    -- so a row without entries has all spans up to any limit
    empty_up_to :
        (more : ℕ)
        → next_token kinds rows + more ≤ length kinds
        → IsRowUpTo symbols g kinds (next_token kinds rows) (next_token kinds rows + more + 1) []
    empty_up_to zero within =
        let UpTo : ℕ → Type 0 = λ limit. IsRowUpTo symbols g kinds (next_token kinds rows) limit [] in
        subst UpTo (omega arith) (row_none kinds (next_token kinds rows))
    empty_up_to (suc more) within =
        let i = next_token kinds rows in
        let UpTo : ℕ → Type 0 = λ limit. IsRowUpTo symbols g kinds i limit [] in
        let before = empty_up_to more (omega (arith, within)) in
        let is = none_up_to (i + more + 1) (omega arith) (omega (arith, within)) before in
        subst UpTo (omega arith)
        (row_more kinds i (i + more + 1) [] [] cell before (omega arith) (rw none is) (inl (none, refl)))

    -- and is the row of the token
    pub row_empty : IsRowUpTo symbols g kinds (next_token kinds rows) (length kinds + 1) []
    row_empty =
        let UpTo : ℕ → Type 0 = λ limit. IsRowUpTo symbols g kinds (next_token kinds rows) limit [] in
        subst UpTo (omega (arith, short))
        (empty_up_to (length kinds - next_token kinds rows) (omega (arith, short)))
