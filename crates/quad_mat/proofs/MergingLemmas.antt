-- The union of two rows, entry by entry.
use Rattle.std.proofs.Common.{◌≡◌, ℕ, ◌+◌, ◌-◌, ◌<◌, ◌≤◌, ◌↔◌, ◌⊎◌, List, [], ◌∷◌, ◌++◌, length, get_or, refl, sym, ◌∙◌, subst, inl, inr, arith}
use Rattle.std.proofs.lemmas.Bool.{cases_lt}
use Rattle.std.proofs.lemmas.List.{length_push, get_or_push, get_or_append_left}
use Rattle.quad_mat.specs.declared.entries.Entry.{Entry}
use Rattle.quad_mat.specs.declared.merging.Step.{Step}
use Rattle.quad_mat.specs.Rows.{blank, FirstHas, RowHas, HasRisingColumns, column_at, AreCellsBelow, IsRow, AreFull}
use Rattle.quad_mat.specs.Rooms.{NumbersBoth, Passes, PassesSymbol, IsStep, IsMergedUpTo, IsMerged}
use Rattle.quad_mat.proofs.EntryLemmas.{has_none, first_more, push_has, push_row, row_none, row_grows, grows_length, grows_self, grows_then, entry_grows, has_grows}

-- up to the next place a row has what it had up to the place before, and what is passed
pub side_more :
    (cells : List (List ℕ)) (row : List Entry) (k next : ℕ) (e : Entry) (column s : ℕ)
    → Passes row k next e
    → FirstHas cells row next column s ↔ (FirstHas cells row k column s ⊎ PassesSymbol cells row k next column s)
side_more cells row k next e column s passes = elim passes [
  | inl u ↦
      let m = first_more cells row k column s in (
        (λ h. elim (m.0 (h.0, omega (arith, u.0, h.1), h.2)) [ inl f ↦ inl f | inr t ↦ inr (u.0, t) ]),
        (elim [
          | inl f ↦ (f.0, omega (arith, u.0, f.1), f.2)
          | inr t ↦ (k, omega (arith, u.0), t.1)
        ]),
      )
  | inr u ↦ (
    (λ h. inl (h.0, omega (arith, u.0, h.1), h.2)),
    (elim [
      | inl f ↦ (f.0, omega (arith, u.0, f.1), f.2)
      | inr t ↦ absurd (omega (arith, u.0, t.0))
    ]),
  )
]

module _ (cells : List (List ℕ)) (left right : List Entry) (i j : ℕ) (full : AreFull cells) where
  -- the next entry is that of the left row
  pub step_left :
      AreCellsBelow (length cells) left
      → (i < length left) × (j < length right → column_at left i < column_at right j)
      → IsStep cells cells left right i j (record { entry = get_or left i blank; i = i + 1; j = j })
  step_left known side = record {
    grows = grows_self cells;
    full = full;
    within = known i blank side.0;
    passes_left = inl (refl, side.0, refl);
    passes_right = inr (refl, side.1);
    further = omega arith;
    has = λ column s. (
      (λ h. inl (refl, h)),
      (elim [ inl h ↦ h.1 | inr h ↦ absurd (omega (arith, h.0)) ]),
    );
  }

  -- or that of the right row
  pub step_right :
      AreCellsBelow (length cells) right
      → (j < length right) × (i < length left → column_at right j < column_at left i)
      → IsStep cells cells left right i j (record { entry = get_or right j blank; i = i; j = j + 1 })
  step_right known side = record {
    grows = grows_self cells;
    full = full;
    within = known j blank side.0;
    passes_left = inr (refl, side.1);
    passes_right = inl (refl, side.0, refl);
    further = omega arith;
    has = λ column s. (
      (λ h. inr (refl, h)),
      (elim [ inl h ↦ absurd (omega (arith, h.0)) | inr h ↦ h.1 ]),
    );
  }

  -- or that of both, with the union of their cells
  pub step_both :
      (new : List (List ℕ)) (cell : ℕ)
      → (i < length left) × (j < length right) × (column_at left i ≡ column_at right j)
      → NumbersBoth cells new (get_or left i blank).cell (get_or right j blank).cell cell
      → IsStep cells new left right i j (record { entry = record { column = column_at left i; cell = cell }; i = i + 1; j = j + 1 })
  step_both new cell side both = record {
    grows = both.grows;
    full = both.full;
    within = both.within;
    passes_left = inl (refl, side.0, refl);
    passes_right = inl (refl, side.1, side.2);
    further = omega arith;
    has = λ column s. (
      (λ h. elim ((both.both s).0 h.1) [
        | inl t ↦ inl (refl, (h.0, t))
        | inr t ↦ inr (refl, (sym side.2 ∙ h.0, t))
      ]),
      (elim [
        | inl h ↦ (h.1.0, (both.both s).1 (inl h.1.1))
        | inr h ↦ (side.2 ∙ h.1.0, (both.both s).1 (inr h.1.1))
      ]),
    );
  }

module _ (columns : ℕ) (old : List (List ℕ)) (left right : List Entry) where
  -- no entries are the union of no entries
  pub merged_start : AreFull old → IsMergedUpTo columns old old left right 0 0 []
  merged_start full = record {
    left_within = omega arith;
    right_within = omega arith;
    grows = grows_self old;
    full = full;
    is_row = row_none (length old) columns;
    below_left = λ k d within some. absurd (omega arith);
    below_right = λ k d within some. absurd (omega arith);
    has = λ column s. (
      (λ h. absurd (has_none old column s h)),
      (elim [ inl h ↦ absurd (omega (arith, h.1)) | inr h ↦ absurd (omega (arith, h.1)) ]),
    );
  }

  module _ (is_left : IsRow (length old) columns left) (is_right : IsRow (length old) columns right)
      (now new : List (List ℕ)) (i j : ℕ) (row : List Entry) (step : Step)
      (so_far : IsMergedUpTo columns old now left right i j row)
      (next : IsStep now new left right i j step) where
    -- the entry that comes next
    abbrev e : Entry
    e = step.entry

    -- its column is below the count
    low : e.column < columns
    low = elim next.passes_left [
      | inl u ↦ omega (arith, u.2, is_left.columns_below i blank u.1)
      | inr u ↦ elim next.passes_right [
        | inl v ↦ omega (arith, v.2, is_right.columns_below j blank v.1)
        | inr v ↦ absurd (omega (arith, u.0, v.0, next.further))
      ]
    ]

    -- and above those so far
    above : (k : ℕ) (d : Entry) → k < length row → (get_or row k d).column < e.column
    above k d within = elim next.passes_left [
      | inl u ↦ omega (arith, u.2, so_far.below_left k d within u.1)
      | inr u ↦ elim next.passes_right [
        | inl v ↦ omega (arith, v.2, so_far.below_right k d within v.1)
        | inr v ↦ absurd (omega (arith, u.0, v.0, next.further))
      ]
    ]

    -- the columns are below that at the next place
    below_more :
        (xs : List Entry) (place after : ℕ)
        → HasRisingColumns xs → Passes xs place after e
        → ((k : ℕ) (d : Entry) → k < length row → place < length xs → (get_or row k d).column < column_at xs place)
        → (k : ℕ) (d : Entry) → k < length (row ++ e ∷ []) → after < length xs → (get_or (row ++ e ∷ []) k d).column < column_at xs after
    below_more xs place after rising passes before k d within some =
        let longer : length (row ++ e ∷ []) ≡ length row + 1 = length_push row e in
        let over : e.column < column_at xs after = elim passes [
          | inl u ↦
              let up : column_at xs place < column_at xs after = rising place after blank (omega (arith, u.0)) some in
              omega (arith, up, u.2)
          | inr u ↦
              let At : ℕ → Type 0 = λ n. e.column < column_at xs n in
              subst At (sym u.0) (u.1 (omega (arith, u.0, some)))
        ] in
        elim (cases_lt k (length row)) [
          | inl earlier ↦ rw (get_or_append_left row (e ∷ []) d k earlier) (omega (arith, over, above k d earlier))
          | inr past ↦
              let last : length row ≡ k = omega (arith, longer, past, within) in
              rw (get_or_push row e d k last) over
        ]

    -- what is passed is the same over the first cells
    passes_old :
        (xs : List Entry) (place after column s : ℕ)
        → AreCellsBelow (length old) xs → Passes xs place after e
        → PassesSymbol now xs place after column s ↔ PassesSymbol old xs place after column s
    passes_old xs place after column s known passes = elim passes [
      | inl u ↦
          let same = entry_grows old now (get_or xs place blank) column s so_far.grows (known place blank u.1) in
          ((λ h. (h.0, same.1 h.1)), (λ h. (h.0, same.0 h.1)))
      | inr u ↦ ((λ h. absurd (omega (arith, u.0, h.0))), (λ h. absurd (omega (arith, u.0, h.0))))
    ]

    -- with the entry, the row has what is passed too
    has_more :
        (column s : ℕ)
        → RowHas new (row ++ e ∷ []) column s ↔ (FirstHas old left step.i column s ⊎ FirstHas old right step.j column s)
    has_more column s =
        let push = push_has row e new column s in
        let same = has_grows now new row (length row) column s next.grows so_far.is_row.cells_below (omega arith) in
        let l = side_more old left i step.i e column s next.passes_left in
        let r = side_more old right j step.j e column s next.passes_right in
        let pl = passes_old left i step.i column s is_left.cells_below next.passes_left in
        let pr = passes_old right j step.j column s is_right.cells_below next.passes_right in (
          (λ h. elim (push.0 h) [
            | inl u ↦ elim ((so_far.has column s).0 (same.1 u)) [
              | inl v ↦ inl (l.1 (inl v))
              | inr v ↦ inr (r.1 (inl v))
            ]
            | inr u ↦ elim ((next.has column s).0 u) [
              | inl v ↦ inl (l.1 (inr (pl.0 v)))
              | inr v ↦ inr (r.1 (inr (pr.0 v)))
            ]
          ]),
          (elim [
            | inl h ↦ elim (l.0 h) [
              | inl v ↦ push.1 (inl (same.0 ((so_far.has column s).1 (inl v))))
              | inr v ↦ push.1 (inr ((next.has column s).1 (inl (pl.1 v))))
            ]
            | inr h ↦ elim (r.0 h) [
              | inl v ↦ push.1 (inl (same.0 ((so_far.has column s).1 (inr v))))
              | inr v ↦ push.1 (inr ((next.has column s).1 (inr (pr.1 v))))
            ]
          ]),
        )

    -- one entry more of the union
    pub merged_more : IsMergedUpTo columns old new left right step.i step.j (row ++ e ∷ [])
    merged_more = record {
      left_within = elim next.passes_left [
        | inl u ↦ omega (arith, u.0, u.1)
        | inr u ↦ omega (arith, u.0, so_far.left_within)
      ];
      right_within = elim next.passes_right [
        | inl u ↦ omega (arith, u.0, u.1)
        | inr u ↦ omega (arith, u.0, so_far.right_within)
      ];
      grows = grows_then old now new so_far.grows next.grows;
      full = next.full;
      is_row =
          push_row row e (length new) columns
          (row_grows (length now) (length new) columns row (grows_length now new next.grows) so_far.is_row)
          above low next.within;
      below_left = below_more left i step.i is_left.rising next.passes_left so_far.below_left;
      below_right = below_more right j step.j is_right.rising next.passes_right so_far.below_right;
      has = has_more;
    }

    -- a step goes on in one row at least
    pub goes_on : (length left - step.i) + (length right - step.j) < (length left - i) + (length right - j)
    goes_on = omega (arith, next.further, merged_more.left_within, merged_more.right_within)

  -- when both rows are passed, the union is whole
  pub merged_all :
      (now : List (List ℕ)) (i j : ℕ) (row : List Entry)
      → length left ≤ i → length right ≤ j → IsMergedUpTo columns old now left right i j row
      → IsMerged columns old now left right row
  merged_all now i j row all_left all_right so_far = record {
    grows = so_far.grows;
    full = so_far.full;
    is_row = so_far.is_row;
    has = λ column s.
        let ends = so_far.has column s in (
          (λ h. elim (ends.0 h) [
            | inl u ↦ inl (u.0, omega (arith, u.1, so_far.left_within), u.2)
            | inr u ↦ inr (u.0, omega (arith, u.1, so_far.right_within), u.2)
          ]),
          (elim [
            | inl u ↦ ends.1 (inl (u.0, omega (arith, u.1, all_left), u.2))
            | inr u ↦ ends.1 (inr (u.0, omega (arith, u.1, all_right), u.2))
          ]),
        );
  }
