-- Loading rows of a matrix into a room.
use Rattle.std.proofs.Common.{◌≡◌, ℕ, zero, suc, ◌+◌, ◌<◌, ◌≤◌, ◌≢◌, ◌↔◌, ◌⊎◌, List, [], ◌∷◌, ◌++◌, Option, Some, length, get_or, slice_get, map, set, refl, sym, ◌∙◌, ap, subst, inl, inr, arith, Contains}
use Rattle.std.proofs.lemmas.Bool.{cases_lt, cases_eq}
use Rattle.std.proofs.lemmas.List.{length_push, get_or_push, get_or_append_left, get_or_read, get_or_default, length-map, length-set, get_or-set_same, get_or-set_other}
use Rattle.cell_sets.specs.Cells.{IsUnion, HaveSame}
use Rattle.quad_mat.specs.declared.entries.Entry.{Entry}
use Rattle.quad_mat.specs.declared.loading.Window.{Window}
use Rattle.quad_mat.specs.declared.room.RowUnion.{RowUnion}
use Rattle.quad_mat.specs.Rows.{cell_of, blank, EntryHas, RowHas, HasRisingColumns, column_at, AreFull, Grows, StayDifferent}
use Rattle.quad_mat.specs.Rooms.{NumbersCell, NumberHas, IsRoom, RoomGrows}
use Rattle.quad_mat.specs.Rows.{row_of}
use Rattle.quad_mat.specs.Loading.{IsMovedTo, MovedHas, AreCopied, CopiesCell, IsMovedUpTo, PushesMoved, IsMovedRow, IsKnown, AreBelow, AreNumbersOf, MovedNumberHas, Renumbers}
use Rattle.quad_mat.proofs.EntryLemmas.{has_none, first_more, push_has, push_row, row_none, row_grows, grows_length, grows_read, grows_self, grows_then, has_grows, cell_read}
use Rattle.quad_mat.proofs.CellLemmas.{copy_same, same_some, stay_same, stay_then}
use Rattle.quad_mat.proofs.RoomLemmas.{number_grows}

-- what is written at a place of a list is there
pub get_set_same :
    {C : Type 0} (xs : List C) (k : ℕ) (x : C) → k < length xs → slice_get (set xs k x) k ≡ Some x
get_set_same [] k x within = absurd (omega arith)
get_set_same (y ∷ ys) zero x within = refl
get_set_same (y ∷ ys) (suc k) x within = get_set_same ys k x (omega arith)

-- and the other places stay as they are
pub get_set_other :
    {C : Type 0} (xs : List C) (k j : ℕ) (x : C)
    → j ≢ k → slice_get (set xs k x) j ≡ slice_get xs j
get_set_other [] k j x other = refl
get_set_other (y ∷ ys) zero zero x other = absurd (other refl)
get_set_other (y ∷ ys) zero (suc j) x other = refl
get_set_other (y ∷ ys) (suc k) zero x other = refl
get_set_other (y ∷ ys) (suc k) (suc j) x other =
    get_set_other ys k j x (λ same. other (ap suc same))

-- of a number that is written at a place, or was there
pub set_cases :
    (known : List (Option ℕ)) (k x n m : ℕ) → k < length known
    → slice_get (set known k (Some x)) n ≡ Some (Some m)
    → ((n ≡ k) × (m ≡ x)) ⊎ (slice_get known n ≡ Some (Some m))
set_cases known k x n m within is = elim (cases_eq n k) [
  | inl same ↦
      let At : ℕ → Type 0 = λ i. slice_get (set known k (Some x)) i ≡ Some (Some m) in
      let there : slice_get (set known k (Some x)) k ≡ Some (Some m) = subst At same is in
      let written = get_set_same known k (Some x) within in
      let equal : Some (Some x) ≡ Some (Some m) = sym written ∙ there in
      inl (same, cc)
  | inr other ↦ inr (sym (get_set_other known k n (Some x) other) ∙ is)
]

-- nothing is known at first
pub copied_none :
    (source cells : List (List ℕ)) (known : List (Option ℕ))
    → length known ≡ length source → ((n m : ℕ) → slice_get known n ≡ Some (Some m) → ⊥) → AreCopied source cells known
copied_none source cells known count none = record { count = count; each = λ n m is. absurd (none n m is) }

-- what is known of cells stays true among more cells
pub copied_grows :
    (source old new : List (List ℕ)) (known : List (Option ℕ))
    → Grows old new → AreCopied source old known → AreCopied source new known
copied_grows source old new known grows copied = record {
  count = copied.count;
  each = λ n m is.
      let there = copied.each n m is in
      let longer = grows_length old new grows in (
        omega (arith, longer, there.0),
        rw (grows_read old new [] m grows there.0) there.1,
      );
}

module _ (source old : List (List ℕ)) (known : List (Option ℕ)) (n : ℕ) (within : n < length source)
    (full : AreFull old) (copied : AreCopied source old known) where
  -- a cell that is known
  pub cell_known : (m : ℕ) → slice_get known n ≡ Some (Some m) → CopiesCell source old old known n m
  cell_known m is = record {
    grows = grows_self old;
    full = full;
    different = stay_same old;
    copied = copied;
    within = (copied.each n m is).0;
    same = (copied.each n m is).1;
  }

  -- a cell that was copied
  pub cell_copied :
      (new : List (List ℕ)) (symbols : List ℕ) (m : ℕ)
      → HaveSame (cell_of source n) symbols → NumbersCell old new symbols m → StayDifferent old new
      → CopiesCell source old new (set known n (Some m)) n m
  cell_copied new symbols m same number different = record {
    grows = number.grows;
    full = number.full;
    different = different;
    copied = record {
      count = length-set known n (Some m) ∙ copied.count;
      each = λ i j is. elim (set_cases known n m i j (omega (arith, copied.count, within)) is) [
        | inl u ↦ rw (u.0, u.1) (number.within, has)
        | inr u ↦ (copied_grows source old new known number.grows copied).each i j u
      ];
    };
    within = number.within;
    same = has;
  }
    where
      has : HaveSame (cell_of source n) (cell_of new m)
      has s = ((λ h. (number.same s).0 ((same s).0 h)), (λ h. (same s).1 ((number.same s).1 h)))

module _ (w : Window) (columns : ℕ) (source old : List (List ℕ)) (row : List Entry) where
  -- nothing of no entries
  pub moved_start :
      (known : List (Option ℕ)) → AreFull old → AreCopied source old known
      → IsMovedUpTo w columns source old old known row 0 []
  moved_start known full copied = record {
    grows = grows_self old;
    full = full;
    different = stay_same old;
    copied = copied;
    is_row = row_none (length old) columns;
    below = λ k m d within from to. absurd (omega arith);
    has = λ column s. (
      (λ h. absurd (has_none old column s h)),
      (λ h. absurd (omega (arith, h.2.1))),
    );
  }

  module _ (now : List (List ℕ)) (known : List (Option ℕ)) (count : ℕ) (made : List Entry) (e : Entry)
      (within : count < length row) (is : e ≡ get_or row count e)
      (so_far : IsMovedUpTo w columns source old now known row count made) where
    -- the entry at the place
    read : e ≡ get_or row count blank
    read = get_or_read row count e within is blank

    -- and its column
    column_read : e.column ≡ (get_or row count blank).column
    column_read = ap (λ (x : Entry). x.column) read

    -- nothing of an entry that the window does not have
    pub moved_skip :
        ((to : ℕ) → IsMovedTo w e.column to → ⊥)
        → IsMovedUpTo w columns source old now known row (count + 1) made
    moved_skip missing = record {
      grows = so_far.grows;
      full = so_far.full;
      different = so_far.different;
      copied = so_far.copied;
      is_row = so_far.is_row;
      below = λ k m d inside from to. so_far.below k m d inside (omega (arith, from)) to;
      has = λ column s.
          let before = so_far.has column s in (
            (λ h. let x = before.0 h in (x.0, x.1, (first_more source row count x.0 s).1 (inl x.2))),
            (λ h. elim ((first_more source row count h.0 s).0 h.2) [
              | inl f ↦ before.1 (h.0, h.1, f)
              | inr t ↦
                  let At : ℕ → Type 0 = λ n. IsMovedTo w n column in
                  let same : e.column ≡ h.0 = column_read ∙ t.0 in
                  absurd (missing column (subst At (sym same) h.1))
            ]),
          );
    }

    -- the entry moved, with the copy of its cell
    pub moved_more :
        (new : List (List ℕ)) (after : List (Option ℕ)) (to cell : ℕ)
        → HasRisingColumns row → w.to + w.width ≤ columns
        → IsMovedTo w e.column to → CopiesCell source now new after e.cell cell
        → IsMovedUpTo w columns source old new after row (count + 1) (made ++ record { column = to; cell = cell } ∷ [])
    moved_more new after to cell rising fits moves copies = record {
      grows = grows_then old now new so_far.grows copies.grows;
      full = copies.full;
      different = stay_then old now new so_far.different copies.different;
      copied = copies.copied;
      is_row =
          push_row made f (length new) columns
          (row_grows (length now) (length new) columns made (grows_length now new copies.grows) so_far.is_row)
          above (omega (arith, moves.1, moves.2, fits)) copies.within;
      below = below;
      has = has;
    }
      where
        f : Entry
        f = record { column = to; cell = cell }

        above : (k : ℕ) (d : Entry) → k < length made → (get_or made k d).column < to
        above k d inside =
            let low : (get_or made k d).column + w.first < (get_or row count blank).column + w.to =
            so_far.below k count d inside (omega arith) within in
            omega (arith, low, moves.2, column_read)

        below :
            (k m : ℕ) (d : Entry) → k < length (made ++ record { column = to; cell = cell } ∷ []) → count + 1 ≤ m → m < length row
            → (get_or (made ++ record { column = to; cell = cell } ∷ []) k d).column + w.first < column_at row m + w.to
        below k m d inside from last =
            let longer : length (made ++ f ∷ []) ≡ length made + 1 = length_push made f in
            elim (cases_lt k (length made)) [
              | inl before ↦
                  rw (get_or_append_left made (f ∷ []) d k before) (so_far.below k m d before (omega (arith, from)) last)
              | inr past ↦
                  let end : length made ≡ k = omega (arith, longer, past, inside) in
                  let up : (get_or row count blank).column < column_at row m = rising count m blank (omega (arith, from)) last in
                  rw (get_or_push made f d k end) (omega (arith, up, moves.2, column_read))
            ]

        has :
            (column s : ℕ)
            → RowHas new (made ++ record { column = to; cell = cell } ∷ []) column s ↔ MovedHas w source row (count + 1) column s
        has column s =
            let push = push_has made f new column s in
            let same = has_grows now new made (length made) column s copies.grows so_far.is_row.cells_below (omega arith) in
            let before = so_far.has column s in
            let cell_read : e.cell ≡ (get_or row count blank).cell = ap (λ (x : Entry). x.cell) read in (
              (λ h. elim (push.0 h) [
                | inl u ↦
                    let x = before.0 (same.1 u) in
                    (x.0, x.1, (first_more source row count x.0 s).1 (inl x.2))
                | inr u ↦
                    let At : ℕ → Type 0 = λ n. IsMovedTo w e.column n in
                    let here : EntryHas source (get_or row count blank) e.column s =
                    (sym column_read, rw cell_read at ((copies.same s).1 u.1)) in
                    (e.column, subst At u.0 moves, (first_more source row count e.column s).1 (inr here))
              ]),
              (λ h. elim ((first_more source row count h.0 s).0 h.2) [
                | inl v ↦ push.1 (inl (same.0 (before.1 (h.0, h.1, v))))
                | inr v ↦
                    let t : Contains (cell_of source e.cell) s = rw cell_read v.1 in
                    let there : to ≡ column = omega (arith, moves.2, h.1.2, column_read, v.0) in
                    push.1 (inr (there, (copies.same s).0 t))
              ]),
            )

  -- what the window has of all entries
  pub moved_all :
      (now : List (List ℕ)) (known : List (Option ℕ)) (count : ℕ) (made : List Entry)
      → length row ≤ count → count ≤ length row → IsMovedUpTo w columns source old now known row count made
      → IsMovedUpTo w columns source old now known row (length row) made
  moved_all now known count made all low so_far =
      let end : count ≡ length row = omega (arith, all, low) in
      let At : ℕ → Type 0 = λ n. IsMovedUpTo w columns source old now known row n made in
      subst At end so_far

-- numbers of rows, in a room that grows
module _ (Gives : ℕ → ℕ → ℕ → Type 0) where
  pub numbers_none : (cells : List (List ℕ)) (rows : List (List Entry)) → AreNumbersOf Gives cells rows []
  numbers_none cells rows i within = absurd (omega arith)

  -- numbers keep what they have
  pub numbers_grow :
      (columns : ℕ) (cells new_cells : List (List ℕ)) (rows new_rows : List (List Entry)) (unions : List RowUnion) (numbers : List ℕ)
      → IsRoom columns cells rows unions → Grows cells new_cells → Grows rows new_rows
      → AreNumbersOf Gives cells rows numbers → AreNumbersOf Gives new_cells new_rows numbers
  numbers_grow columns cells new_cells rows new_rows unions numbers room more_cells more_rows are i within =
      let at = are i within in (
        omega (arith, grows_length rows new_rows more_rows, at.0),
        (λ column s.
            let same = number_grows columns cells rows unions room new_cells new_rows (get_or numbers i 0) column s more_cells more_rows at.0 in
            let is = at.1 column s in
            ((λ h. is.0 (same.1 h)), (λ h. same.0 (is.1 h)))),
      )

  -- one number more
  pub numbers_push :
      (cells : List (List ℕ)) (rows : List (List Entry)) (numbers : List ℕ) (n : ℕ)
      → AreNumbersOf Gives cells rows numbers
      → n < length rows → ((column s : ℕ) → NumberHas cells rows n column s ↔ Gives (length numbers) column s)
      → AreNumbersOf Gives cells rows (numbers ++ n ∷ [])
  numbers_push cells rows numbers n are within is i inside =
      let longer : length (numbers ++ n ∷ []) ≡ length numbers + 1 = length_push numbers n in
      elim (cases_lt i (length numbers)) [
        | inl before ↦ rw (get_or_append_left numbers (n ∷ []) 0 i before) (are i before)
        | inr past ↦
            let last : length numbers ≡ i = omega (arith, longer, past, inside) in
            let At : ℕ → Type 0 = λ k. (column s : ℕ) → NumberHas cells rows n column s ↔ Gives k column s in
            rw (get_or_push numbers n 0 i last) (within, subst At last is)
      ]

  -- numbers are below the count of rows
  pub numbers_below : (cells : List (List ℕ)) (rows : List (List Entry)) (numbers : List ℕ) → AreNumbersOf Gives cells rows numbers → AreBelow (length rows) numbers
  numbers_below cells rows numbers are i within = (are i within).0

-- what is known stays so in a room that grows
pub known_grows :
    (w : Window) (source : List (List ℕ)) (source_rows : List (List Entry)) (columns : ℕ)
    (cells new_cells : List (List ℕ)) (rows new_rows : List (List Entry)) (unions : List RowUnion)
    (known_cells after known_rows : List (Option ℕ))
    → IsRoom columns cells rows unions → Grows cells new_cells → Grows rows new_rows
    → AreCopied source new_cells after
    → IsKnown w source source_rows cells rows known_cells known_rows
    → IsKnown w source source_rows new_cells new_rows after known_rows
known_grows w source source_rows columns cells new_cells rows new_rows unions known_cells after known_rows room more_cells more_rows copied known = record {
  copied = copied;
  loaded = record {
    count = known.loaded.count;
    each = λ n m is.
        let there = known.loaded.each n m is in (
          omega (arith, grows_length rows new_rows more_rows, there.0),
          (λ column s.
              let same = number_grows columns cells rows unions room new_cells new_rows m column s more_cells more_rows there.0 in
              let has = there.1 column s in
              ((λ h. has.0 (same.1 h)), (λ h. same.0 (has.1 h)))),
        );
  };
}

module _ (columns : ℕ) (cells new_cells : List (List ℕ)) (rows new_rows : List (List Entry)) (unions after : List RowUnion)
    (room : IsRoom columns cells rows unions) (grows : RoomGrows columns cells rows new_cells new_rows after) where
  -- what is known stays so, where the room alone grows
  pub known_kept :
      (w : Window) (source : List (List ℕ)) (source_rows : List (List Entry)) (known_cells known_rows : List (Option ℕ))
      → IsKnown w source source_rows cells rows known_cells known_rows
      → IsKnown w source source_rows new_cells new_rows known_cells known_rows
  known_kept w source source_rows known_cells known_rows known =
      known_grows w source source_rows columns cells new_cells rows new_rows unions known_cells known_cells known_rows room
      grows.cells_grow grows.rows_grow
      (copied_grows source cells new_cells known_cells grows.cells_grow known.copied) known

  -- and the number of a row that was brought keeps what it has
  pub moved_kept :
      (w : Window) (source : List (List ℕ)) (row : List Entry) (m : ℕ)
      → IsMovedRow w source row cells rows m → IsMovedRow w source row new_cells new_rows m
  moved_kept w source row m is = (
    omega (arith, grows_length rows new_rows grows.rows_grow, is.0),
    (λ column s.
        let same = number_grows columns cells rows unions room new_cells new_rows m column s grows.cells_grow grows.rows_grow is.0 in
        let has = is.1 column s in
        ((λ h. has.0 (same.1 h)), (λ h. same.0 (has.1 h)))),
  )

-- a row more is known
pub known_row :
    (w : Window) (source : List (List ℕ)) (source_rows : List (List Entry))
    (cells : List (List ℕ)) (rows : List (List Entry)) (known_cells known_rows : List (Option ℕ)) (n m : ℕ)
    → n < length source_rows → IsMovedRow w source (row_of source_rows n) cells rows m
    → IsKnown w source source_rows cells rows known_cells known_rows
    → IsKnown w source source_rows cells rows known_cells (set known_rows n (Some m))
known_row w source source_rows cells rows known_cells known_rows n m within is known = record {
  copied = known.copied;
  loaded = record {
    count = length-set known_rows n (Some m) ∙ known.loaded.count;
    each = λ i j at. elim (set_cases known_rows n m i j (omega (arith, known.loaded.count, within)) at) [
      | inl u ↦ rw (u.0, u.1) is
      | inr u ↦ known.loaded.each i j u
    ];
  };
}

-- one row more that came into the room
pub moved_next :
    (w : Window) (source : List (List ℕ)) (source_rows : List (List Entry)) (source_numbers : List ℕ) (first columns : ℕ)
    (cells new_cells : List (List ℕ)) (rows new_rows : List (List Entry)) (unions after : List RowUnion) (numbers : List ℕ) (i n m : ℕ)
    → IsRoom columns cells rows unions → RoomGrows columns cells rows new_cells new_rows after
    → n ≡ get_or source_numbers i 0 → first + length numbers ≡ i
    → IsMovedRow w source (row_of source_rows n) new_cells new_rows m
    → AreNumbersOf (MovedNumberHas w source source_rows source_numbers first) cells rows numbers
    → AreNumbersOf (MovedNumberHas w source source_rows source_numbers first) new_cells new_rows (numbers ++ m ∷ [])
moved_next w source source_rows source_numbers first columns cells new_cells rows new_rows unions after numbers i n m room grows read place moved are =
    let Gives = MovedNumberHas w source source_rows source_numbers first in
    let named : get_or source_numbers (first + length numbers) 0 ≡ n = ap (λ k. get_or source_numbers k 0) place ∙ sym read in
    numbers_push Gives new_cells new_rows numbers m
    (numbers_grow Gives columns cells new_cells rows new_rows unions numbers room grows.cells_grow grows.rows_grow are)
    moved.0 (λ column s. rw named (moved.1 column s))

-- the copy of a cell of the source has the same, and is not empty
pub source_copy :
    {C : Type 0} (symbols : C → List ℕ) (source : List C) (n : ℕ) (none c copy : C)
    → AreFull (map symbols source) → n < length source → c ≡ get_or source n c
    → symbols none ≡ [] → IsUnion (symbols none) (symbols c) (symbols copy)
    → (symbols copy ≡ [] → ⊥) × HaveSame (cell_of (map symbols source) n) (symbols copy)
source_copy symbols source n none c copy full within is empty union =
    let read = cell_read symbols source n c within is in
    let same = copy_same (symbols none) (symbols c) (symbols copy) empty union in
    let low : n < length (map symbols source) = omega (arith, length-map source symbols, within) in (
      same_some (symbols c) (symbols copy) same (λ nothing. full n low (read ∙ nothing)),
      rw read same,
    )

-- one entry more, in the window or outside
pub moved_step :
    (w : Window) (columns : ℕ) (source old now new : List (List ℕ)) (row : List Entry) (known after : List (Option ℕ)) (count : ℕ) (made next : List Entry)
    → HasRisingColumns row → w.to + w.width ≤ columns → count < length row
    → IsMovedUpTo w columns source old now known row count made
    → PushesMoved w source now new known after (get_or row count blank) made next
    → IsMovedUpTo w columns source old new after row (count + 1) next
moved_step w columns source old now new row known after count made next rising fits within so_far pushes =
    let is : get_or row count blank ≡ get_or row count (get_or row count blank) =
    get_or_default row count blank (get_or row count blank) within in
    elim pushes [
      | inl u ↦ rw (u.1, u.2, u.3) (moved_skip w columns source old row now known count made (get_or row count blank) within is so_far u.0)
      | inr u ↦ rw u.4 (moved_more w columns source old row now known count made (get_or row count blank) within is so_far new after u.0 u.1 rising fits u.2 u.3)
    ]

-- the row that was made, in the room
pub moved_in_room :
    (w : Window) (columns : ℕ) (source old mid new : List (List ℕ)) (known : List (Option ℕ)) (row made : List Entry) (rows : List (List Entry)) (m : ℕ)
    → IsMovedUpTo w columns source old mid known row (length row) made → Grows mid new
    → (m < length rows) × (row_of rows m ≡ made)
    → IsMovedRow w source row new rows m
moved_in_room w columns source old mid new known row made rows m moved more (within, is) = (
  within,
  (λ column s.
      let same = has_grows mid new made (length made) column s more moved.is_row.cells_below (omega arith) in
      let has = moved.has column s in
      rw is ((λ h. has.0 (same.1 h)), (λ h. same.0 (has.1 h)))),
)

-- nothing is known at first
pub known_none :
    (w : Window) (source : List (List ℕ)) (source_rows : List (List Entry)) (cells : List (List ℕ)) (rows : List (List Entry)) (known_cells known_rows : List (Option ℕ))
    → length known_cells ≡ length source → ((n m : ℕ) → slice_get known_cells n ≡ Some (Some m) → ⊥)
    → length known_rows ≡ length source_rows → ((n m : ℕ) → slice_get known_rows n ≡ Some (Some m) → ⊥)
    → IsKnown w source source_rows cells rows known_cells known_rows
known_none w source source_rows cells rows known_cells known_rows count none row_count row_none = record {
  copied = copied_none source cells known_cells count none;
  loaded = record { count = row_count; each = λ n m is. absurd (row_none n m is) };
}

-- nothing added
zero_plus : (i : ℕ) → 0 + i ≡ i
zero_plus i = omega arith

module _ (w : Window) (source : List (List ℕ)) (source_rows : List (List Entry)) (named : List ℕ) where
  -- no number is changed at first
  pub renumber_start :
      (cells : List (List ℕ)) (rows : List (List Entry)) → Renumbers w source source_rows named cells rows named 0
  renumber_start cells rows = record {
    same = refl;
    rest = λ j from. refl;
    changed = λ j low. absurd (omega (arith, low));
  }

  -- one number more is changed
  pub renumber_next :
      (columns : ℕ) (cells new_cells : List (List ℕ)) (rows new_rows : List (List Entry)) (unions after : List RowUnion)
      (numbers : List ℕ) (i n m : ℕ)
      → IsRoom columns cells rows unions → RoomGrows columns cells rows new_cells new_rows after
      → i < length numbers → n ≡ get_or numbers i 0 → IsMovedRow w source (row_of source_rows n) new_cells new_rows m
      → Renumbers w source source_rows named cells rows numbers i
      → Renumbers w source source_rows named new_cells new_rows (set numbers i m) (i + 1)
  renumber_next columns cells new_cells rows new_rows unions after numbers i n m room grows within read moved before = record {
    same = length-set numbers i m ∙ before.same;
    rest = λ j from. get_or-set_other numbers i j m 0 (λ e. omega (arith, e, from)) ∙ before.rest j (omega (arith, from));
    changed = λ j low. elim (cases_lt j i) [
      | inl first ↦
          rw (get_or-set_other numbers i j m 0 (λ e. omega (arith, e, first)))
          (moved_kept columns cells new_cells rows new_rows unions after room grows w source
          (row_of source_rows (get_or named j 0)) (get_or numbers j 0) (before.changed j first))
      | inr past ↦
          let At : ℕ → Type 0 =
          λ k. IsMovedRow w source (row_of source_rows (get_or named k 0)) new_cells new_rows (get_or (set numbers i m) k 0) in
          let here : i ≡ j = omega (arith, low, past) in
          let was : get_or named i 0 ≡ n = sym (before.rest i (omega arith)) ∙ sym read in
          subst At here (rw (get_or-set_same numbers i m 0 within, was) moved)
    ];
  }

  -- all numbers are changed
  pub renumber_all :
      (cells : List (List ℕ)) (rows : List (List Entry)) (numbers : List ℕ) (count : ℕ)
      → length numbers ≤ count → Renumbers w source source_rows named cells rows numbers count
      → AreNumbersOf (MovedNumberHas w source source_rows named 0) cells rows numbers
  renumber_all cells rows numbers count all done i within =
      rw (zero_plus i) (done.changed i (omega (arith, within, all)))
