-- What a row has for the span up to an end.
use Rattle.std.proofs.Common.{◌≡◌, ℕ, zero, suc, ◌+◌, ◌<◌, ◌≤◌, ◌≢◌, List, [], ◌∷◌, ◌++◌, length, get_or, slice_get, Some, refl, sym, ◌∙◌, ap, inl, inr, arith, Contains}
use Rattle.std.specs.Prelude.{Result, Ok, Err}
use Rattle.std.specs.List.Sorted.{IsSearchInRange, IsBinarySearchResult, IsNonDecreasingBy}
use Rattle.std.specs.Ordering.{nat_cmp, ordering_index}
use Rattle.std.proofs.lemmas.Bool.{cases_lt, cases_eq}
use Rattle.std.proofs.lemmas.Cmp.{ranked}
use Rattle.std.proofs.lemmas.List.{length_push, get_or_push, get_or_append_left}
use Rattle.std.proofs.lemmas.Option.{slice_get_within, get_or_from_slice_get}
use Rattle.std.proofs.lemmas.Bool.Decides.{nat_tests}
use Rattle.valiant.specs.declared.rows.Entry.{Entry}
use Rattle.valiant.specs.Rows.{found, HasRisingEnds, IsEntryPlace}

module _ {C : Type 0} where
  -- behind its first entry a row has rising ends
  pub rising_tail : (e : Entry C) (row : List (Entry C)) → HasRisingEnds (e ∷ row) → HasRisingEnds row
  rising_tail e row rising m n d order within = rising (suc m) (suc n) d (omega arith) (omega arith)

  module _ (row : List (Entry C)) (rising : HasRisingEnds row) (end : ℕ) where
    -- the comparisons with an end rise along the row, as a binary search asks
    comparisons_rise : IsNonDecreasingBy (λ (e : Entry C). ordering_index (nat_cmp e.end end)) row
    comparisons_rise i j d order within =
        let rise : (get_or row i d).end ≤ (get_or row j d).end =
        grind (arith, rising i j d, λ (same : i ≡ j). ap (λ n. (get_or row n d).end) same) in
        grind (arith, nat_tests)

    -- a binary search by ends answers the place of an end
    pub searched :
        (place : Result ℕ ℕ) → IsSearchInRange place (length row)
        → IsBinarySearchResult (λ (e : Entry C). nat_cmp e.end end) row place
        → IsEntryPlace row end place
    searched (Ok at) within equal = (within, λ d. ranked _ end _ (sym (equal d)))
    searched (Err at) within parted = λ k d in_row same.
        elim (cases_lt k at) [
          | inl before ↦
              let below : (get_or row k d).end < end =
              ranked _ end _ (sym ((parted comparisons_rise).0 k d (omega arith) before)) in
              omega (arith, below, same)
          | inr behind ↦
              let above : end < (get_or row k d).end =
              ranked _ end _ (sym ((parted comparisons_rise).1 k d behind in_row)) in
              omega (arith, above, same)
        ]

  module _ (symbols : C → List ℕ) where
    -- at the end of its first entry a row has the symbols of that entry
    pub found_first :
        (e : Entry C) (row : List (Entry C)) (end : ℕ)
        → e.end ≡ end → found symbols (e ∷ row) end ≡ symbols e.cell
    found_first e row end same = grind (arith, nat_tests)

    -- at another end it has what the entries behind have
    pub found_behind :
        (e : Entry C) (row : List (Entry C)) (end : ℕ)
        → e.end ≢ end → found symbols (e ∷ row) end ≡ found symbols row end
    found_behind e row end other = grind (arith, nat_tests)

    -- where no entry has the end, the row has nothing for it
    pub found_none :
        (row : List (Entry C)) (end : ℕ)
        → ((k : ℕ) (d : Entry C) → k < length row → (get_or row k d).end ≢ end)
        → found symbols row end ≡ []
    found_none [] end missing = refl
    found_none (e ∷ row) end missing =
        rw (found_behind e row end (missing 0 e (omega arith)))
        (found_none row end (λ k d within. missing (suc k) d (omega arith)))

    -- where the entry at a place has the end, the row has the symbols of that entry
    pub found_place :
        (row : List (Entry C)) (end at : ℕ) (d : Entry C)
        → HasRisingEnds row → at < length row → (get_or row at d).end ≡ end
        → found symbols row end ≡ symbols (get_or row at d).cell
    found_place [] end at d rising within same = absurd (omega arith)
    found_place (e ∷ row) end zero d rising within same = found_first e row end same
    found_place (e ∷ row) end (suc at) d rising within same =
        let before : e.end < (get_or row at d).end = rising 0 (suc at) d (omega arith) within in
        rw (found_behind e row end (λ is. omega (arith, before, same, is)))
        (found_place row end at d (rising_tail e row rising) (omega arith) same)

    -- where an entry stands in the row, the row has its symbols up to its end
    pub found_entry :
        (row : List (Entry C)) (at : ℕ) (e : Entry C)
        → HasRisingEnds row → slice_get row at ≡ Some e → found symbols row e.end ≡ symbols e.cell
    found_entry row at e rising is =
        let same : get_or row at e ≡ e = get_or_from_slice_get row at e e is in
        let within = slice_get_within row at e is in
        found_place row e.end at e rising within (ap (λ (d : Entry C). d.end) same)
        ∙ ap (λ (d : Entry C). symbols d.cell) same

    -- the entry up to this end stands at the place
    pub record StandsAt (row : List (Entry C)) (end at : ℕ) : Type 0 where
      pub e : Entry C
      pub is : slice_get row at ≡ Some e
      pub same_end : e.end ≡ end
      pub same_symbols : found symbols row end ≡ symbols e.cell

    -- what a row has for the span up to an end stands in one of its entries
    pub entry_found :
        (row : List (Entry C)) (end n : ℕ)
        → Contains (found symbols row end) n → (at : ℕ) × StandsAt row end at
    entry_found [] end n has = absurd (omega (arith, has.1))
    entry_found (e ∷ row) end n has =
        elim (cases_eq e.end end) [
          | inl same ↦ (
            0,
            record {
              e = e;
              is = refl;
              same_end = same;
              same_symbols = found_first e row end same;
            },
          )
          | inr other ↦
              let skip : found symbols (e ∷ row) end ≡ found symbols row end = found_behind e row end other in
              let x = entry_found row end n (rw skip at has) in (
                suc x.0,
                record {
                  e = x.1.e;
                  is = x.1.is;
                  same_end = x.1.same_end;
                  same_symbols = skip ∙ x.1.same_symbols;
                },
              )
        ]

    -- with one entry more a row has what it had for every other end
    pub found_push_other :
        (row : List (Entry C)) (e : Entry C) (end : ℕ)
        → e.end ≢ end → found symbols (row ++ e ∷ []) end ≡ found symbols row end
    found_push_other [] e end other = found_behind e [] end other
    found_push_other (d ∷ row) e end other =
        elim (cases_eq d.end end) [
          | inl same ↦ found_first d (row ++ e ∷ []) end same ∙ sym (found_first d row end same)
          | inr behind ↦ found_behind d (row ++ e ∷ []) end behind ∙ found_push_other row e end other
              ∙ sym (found_behind d row end behind)
        ]

    -- and for the end of that entry, where no other has it, the symbols of that entry
    pub found_push_same :
        (row : List (Entry C)) (e : Entry C)
        → ((k : ℕ) (d : Entry C) → k < length row → (get_or row k d).end ≢ e.end)
        → found symbols (row ++ e ∷ []) e.end ≡ symbols e.cell
    found_push_same [] e missing = found_first e [] e.end refl
    found_push_same (d ∷ row) e missing =
        found_behind d (row ++ e ∷ []) e.end (missing 0 d (omega arith))
        ∙ found_push_same row e (λ k c within. missing (suc k) c (omega arith))

  -- the ends of a row are in a range
  abbrev pub AreEndsWithin : ℕ → ℕ → List (Entry C) → Type 0
  AreEndsWithin i limit row =
      (k : ℕ) (d : Entry C) → k < length row → (i < (get_or row k d).end) × ((get_or row k d).end < limit)

  module _ (row : List (Entry C)) (e : Entry C) (i limit : ℕ) (same : e.end ≡ limit)
      (within : AreEndsWithin i limit row) where
    -- with an entry at the limit, the limit is one further
    pub within_push : i < limit → AreEndsWithin i (limit + 1) (row ++ e ∷ [])
    within_push order k d below =
        let longer : length (row ++ e ∷ []) ≡ length row + 1 = length_push row e in
        elim (cases_lt k (length row)) [
          | inl before ↦
              let is : get_or (row ++ e ∷ []) k d ≡ get_or row k d = get_or_append_left row (e ∷ []) d k before in
              rw is ((within k d before).0, omega (arith, (within k d before).1))
          | inr past ↦
              let last : k ≡ length row = omega (arith, longer) in
              let is : get_or (row ++ e ∷ []) k d ≡ e = get_or_push row e d k (sym last) in
              rw is (omega (arith, same), omega (arith, same))
        ]

    -- and the ends still rise
    pub rising_push : HasRisingEnds row → HasRisingEnds (row ++ e ∷ [])
    rising_push rising m n d order below =
        let longer : length (row ++ e ∷ []) ≡ length row + 1 = length_push row e in
        let first : get_or (row ++ e ∷ []) m d ≡ get_or row m d =
        get_or_append_left row (e ∷ []) d m (omega (arith, longer)) in
        elim (cases_lt n (length row)) [
          | inl before ↦
              let second : get_or (row ++ e ∷ []) n d ≡ get_or row n d = get_or_append_left row (e ∷ []) d n before in
              rw (first, second) (rising m n d order before)
          | inr past ↦
              let last : n ≡ length row = omega (arith, longer) in
              let second : get_or (row ++ e ∷ []) n d ≡ e = get_or_push row e d n (sym last) in
              rw (first, second) (omega (arith, (within m d (omega arith)).1, same))
        ]
