-- Rooms: rows by number, and the unions that are remembered.
use Rattle.std.proofs.Common.{◌≡◌, ℕ, ◌+◌, ◌<◌, ◌↔◌, ◌⊎◌, List, [], ◌∷◌, ◌++◌, length, get_or, refl, sym, ◌∙◌, subst, inl, inr, arith, Contains}
use Rattle.std.specs.Prelude.{Result, Ok, Err, OnOk, OnErr}
use Rattle.std.proofs.lemmas.Bool.{cases_lt}
use Rattle.std.proofs.lemmas.List.{length_push, get_or_push, get_or_append_left, get_or_read}
use Rattle.std.proofs.lemmas.List.Elements.{Contains-push_cases}
use Rattle.cell_sets.specs.Cells.{HaveSame}
use Rattle.quad_mat.specs.declared.entries.Entry.{Entry}
use Rattle.quad_mat.specs.declared.room.RowUnion.{RowUnion}
use Rattle.quad_mat.specs.Rows.{cell_of, IsRow, AreFull, Grows}
use Rattle.quad_mat.specs.Rooms.{NumberHas, IsRowUnion, IsMerged, IsRoom, IsSingleRow, RoomGrows}
use Rattle.quad_mat.specs.Rows.{row_of}
use Rattle.quad_mat.proofs.EntryLemmas.{has_none, push_has, push_row, row_none, row_grows, grows_length, grows_read, grows_self, grows_push, grows_then, has_grows}

-- a row that is read at its place
pub row_read : (rows : List (List Entry)) (n : ℕ) (row : List Entry) → n < length rows → row ≡ get_or rows n row → row ≡ row_of rows n
row_read rows n row within is = get_or_read rows n row within is []

module _ (columns : ℕ) (cells : List (List ℕ)) (rows : List (List Entry)) (unions : List RowUnion)
    (room : IsRoom columns cells rows unions) where
  -- a number's row keeps what it has
  pub number_grows :
      (new_cells : List (List ℕ)) (new_rows : List (List Entry)) (n column s : ℕ)
      → Grows cells new_cells → Grows rows new_rows → n < length rows
      → NumberHas cells rows n column s ↔ NumberHas new_cells new_rows n column s
  number_grows new_cells new_rows n column s more_cells more_rows within =
      rw (grows_read rows new_rows [] n more_rows within)
      (has_grows cells new_cells (row_of rows n) (length (row_of rows n)) column s more_cells
      (room.each n within).cells_below (omega arith))

  -- and a union stays one
  pub union_grows :
      (new_cells : List (List ℕ)) (new_rows : List (List Entry)) (a b both : ℕ)
      → Grows cells new_cells → Grows rows new_rows
      → IsRowUnion cells rows a b both → IsRowUnion new_cells new_rows a b both
  union_grows new_cells new_rows a b both more_cells more_rows (in_a, in_b, in_both, is) =
      let longer = grows_length rows new_rows more_rows in (
        omega (arith, longer, in_a),
        omega (arith, longer, in_b),
        omega (arith, longer, in_both),
        (λ column s.
            let ga = number_grows new_cells new_rows a column s more_cells more_rows in_a in
            let gb = number_grows new_cells new_rows b column s more_cells more_rows in_b in
            let gn = number_grows new_cells new_rows both column s more_cells more_rows in_both in (
              (λ h. elim ((is column s).0 (gn.1 h)) [ inl u ↦ inl (ga.0 u) | inr u ↦ inr (gb.0 u) ]),
              (elim [
                | inl u ↦ gn.0 ((is column s).1 (inl (ga.1 u)))
                | inr u ↦ gn.0 ((is column s).1 (inr (gb.1 u)))
              ]),
            )),
      )

  -- the room with more cells
  pub room_cells : (new_cells : List (List ℕ)) → Grows cells new_cells → AreFull new_cells → IsRoom columns new_cells rows unions
  room_cells new_cells more full = record {
    full = full;
    some_row = room.some_row;
    first = room.first;
    each = λ n within. row_grows (length cells) (length new_cells) columns (row_of rows n) (grows_length cells new_cells more) (room.each n within);
    remembered = λ m has. union_grows new_cells rows m.left m.right m.both more (grows_self rows) (room.remembered m has);
  }

  -- the room with one row more
  pub room_push :
      (row : List Entry) → IsRow (length cells) columns row → IsRoom columns cells (rows ++ row ∷ []) unions
  room_push row is =
      let longer : length (rows ++ row ∷ []) ≡ length rows + 1 = length_push rows row in record {
        full = room.full;
        some_row = omega (arith, longer);
        first = get_or_append_left rows (row ∷ []) [] 0 room.some_row ∙ room.first;
        each = λ n within. elim (cases_lt n (length rows)) [
          | inl before ↦ rw (get_or_append_left rows (row ∷ []) [] n before) (room.each n before)
          | inr past ↦
              let last : length rows ≡ n = omega (arith, longer, past, within) in
              rw (get_or_push rows row [] n last) is
        ];
        remembered = λ m has.
            union_grows cells (rows ++ row ∷ []) m.left m.right m.both (grows_self cells) (grows_push rows row) (room.remembered m has);
      }

  -- a row that is put behind the others
  pub row_pushed :
      (row : List Entry) (new : List (List Entry)) → IsRow (length cells) columns row → new ≡ rows ++ row ∷ [] → RoomGrows columns cells rows cells new unions
  row_pushed row new is same = rw same (record {
    cells_grow = grows_self cells;
    rows_grow = grows_push rows row;
    room = room_push row is;
  })

  -- and its number
  pub row_last :
      (row : List Entry) (new : List (List Entry)) (n : ℕ) → n ≡ length rows → new ≡ rows ++ row ∷ [] → (n < length new) × (row_of new n ≡ row)
  row_last row new n last same =
      rw same (omega (arith, length_push rows row, last), get_or_push rows row [] n (sym last))

  -- a room that stays as it is
  pub room_kept : RoomGrows columns cells rows cells rows unions
  room_kept = record { cells_grow = grows_self cells; rows_grow = grows_self rows; room = room }

  -- the empty row has nothing
  pub first_none : (column s : ℕ) → NumberHas cells rows 0 column s → ⊥
  first_none column s h = has_none cells column s (rw room.first at h)

  -- a row is its union with itself
  pub union_self : (a b : ℕ) → a < length rows → a ≡ b → IsRowUnion cells rows a b a
  union_self a b within is =
      rw (← is) (within, within, within, λ column s. ((λ h. inl h), (elim [ inl h ↦ h | inr h ↦ h ])))

  -- and with the empty row
  pub union_right : (a b : ℕ) → a < length rows → b ≡ 0 → IsRowUnion cells rows a b a
  union_right a b within is =
      rw is (
        within,
        room.some_row,
        within,
        λ column s. (
          (λ h. inl h),
          (elim [ inl h ↦ h | inr h ↦ absurd (first_none column s h) ]),
        ),
      )

  -- also where the empty row stands first
  pub union_left : (a b : ℕ) → b < length rows → a ≡ 0 → IsRowUnion cells rows a b b
  union_left a b within is =
      rw is (
        room.some_row,
        within,
        within,
        λ column s. (
          (λ h. inr h),
          (elim [ inl h ↦ absurd (first_none column s h) | inr h ↦ h ]),
        ),
      )

  -- a union that is remembered
  pub union_known :
      (a b n : ℕ)
      → ((m : RowUnion) × Contains unions m × (m.left ≡ a) × (m.right ≡ b) × (m.both ≡ n))
      → IsRowUnion cells rows a b n
  union_known a b n (m, has, is_a, is_b, is_n) = rw (← is_a, ← is_b, ← is_n) (room.remembered m has)

  -- a true union may be remembered
  room_remember : (memo : RowUnion) → IsRowUnion cells rows memo.left memo.right memo.both → IsRoom columns cells rows (unions ++ memo ∷ [])
  room_remember memo new = record {
    full = room.full;
    some_row = room.some_row;
    first = room.first;
    each = room.each;
    remembered = λ m has. elim (Contains-push_cases unions memo m has) [
      | inl u ↦ room.remembered m u
      | inr u ↦ let P : RowUnion → Type 0 = λ x. IsRowUnion cells rows x.left x.right x.both in subst P u new
    ];
  }

  either : {A E : Type 0} (r : Result A E) (P Q : Type 0) → OnOk r P → OnErr r Q → P ⊎ Q
  either (Ok x) P Q p q = inl p
  either (Err x) P Q p q = inr q

  -- a union that no memory was found to remember is not remembered
  pub room_tried :
      {A E : Type 0} (r : Result A E) (now : List RowUnion) (memo : RowUnion)
      → IsRowUnion cells rows memo.left memo.right memo.both
      → OnOk r (now ≡ unions ++ memo ∷ []) → OnErr r (now ≡ unions) → IsRoom columns cells rows now
  room_tried r now memo new ok err = elim (either r (now ≡ unions ++ memo ∷ []) (now ≡ unions) ok err) [
    | inl u ↦ rw u (room_remember memo new)
    | inr u ↦ rw u room
  ]

  -- the union that was made, with its row in the room
  pub union_made :
      (mid_cells : List (List ℕ)) (new_cells : List (List ℕ)) (new_rows : List (List Entry)) (a b n : ℕ) (left right row : List Entry)
      → a < length rows → b < length rows → left ≡ row_of rows a → right ≡ row_of rows b
      → IsMerged columns cells mid_cells left right row → Grows mid_cells new_cells → Grows rows new_rows
      → (n < length new_rows) × (row_of new_rows n ≡ row)
      → IsRowUnion new_cells new_rows a b n
  union_made mid_cells new_cells new_rows a b n left right row in_a in_b is_a is_b merged more_cells more_rows (in_n, is_n) =
      let longer = grows_length rows new_rows more_rows in
      let more = grows_then cells mid_cells new_cells merged.grows more_cells in (
        omega (arith, longer, in_a),
        omega (arith, longer, in_b),
        in_n,
        (λ column s.
            let ga = number_grows new_cells new_rows a column s more more_rows in_a in
            let gb = number_grows new_cells new_rows b column s more more_rows in_b in
            let gn = has_grows mid_cells new_cells row (length row) column s more_cells merged.is_row.cells_below (omega arith) in
            let is = rw (is_a, is_b) at (merged.has column s) in
            rw is_n (
              (λ h. elim (is.0 (gn.1 h)) [ inl u ↦ inl (ga.0 u) | inr u ↦ inr (gb.0 u) ]),
              (elim [
                | inl u ↦ gn.0 (is.1 (inl (ga.1 u)))
                | inr u ↦ gn.0 (is.1 (inr (gb.1 u)))
              ]),
            )),
      )

-- the room with the empty row alone
pub room_first : (columns : ℕ) → IsRoom columns [] ([] ∷ []) []
room_first columns = record {
  full = λ n within none. absurd (omega arith);
  some_row = omega arith;
  first = refl;
  each = λ n within.
      let only : n ≡ 0 = omega arith in
      rw only (row_none 0 columns);
  remembered = λ m has. absurd (omega (arith, has.1));
}

-- a room grows in steps
pub room_then :
    (columns : ℕ) (one_cells two_cells three_cells : List (List ℕ)) (one two three : List (List Entry)) (unions after : List RowUnion)
    → RoomGrows columns one_cells one two_cells two unions
    → RoomGrows columns two_cells two three_cells three after
    → RoomGrows columns one_cells one three_cells three after
room_then columns one_cells two_cells three_cells one two three unions after first second = record {
  cells_grow = grows_then one_cells two_cells three_cells first.cells_grow second.cells_grow;
  rows_grow = grows_then one two three first.rows_grow second.rows_grow;
  room = second.room;
}

-- a row with one entry
pub single_row :
    (count columns : ℕ) (e : Entry) → e.column < columns → e.cell < count → IsRow count columns (e ∷ [])
single_row count columns e low known =
    push_row [] e count columns (row_none count columns) (λ k d within. absurd (omega arith)) low known

-- and what it has
pub single_has :
    (cells : List (List ℕ)) (rows : List (List Entry)) (e : Entry) (symbols : List ℕ) (n : ℕ)
    → HaveSame symbols (cell_of cells e.cell)
    → (n < length rows) × (row_of rows n ≡ e ∷ [])
    → IsSingleRow cells rows e.column symbols n
single_has cells rows e symbols n same (within, is) = (
  within,
  (λ column s.
      let push = push_has [] e cells column s in
      rw is (
        (λ h. elim (push.0 h) [
          | inl u ↦ absurd (has_none cells column s u)
          | inr u ↦ (sym u.0, (same s).1 u.1)
        ]),
        (λ h. push.1 (inr (sym h.0, (same s).0 h.1))),
      )),
)
