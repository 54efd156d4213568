-- Matrices as what they keep is seen.
use Rattle.std.proofs.Common.{◌≡◌, ℕ, ◌+◌, ◌-◌, ◌<◌, ◌≤◌, ◌↔◌, List, [], ◌++◌, Some, None, length, get_or, map, set, refl, sym, ◌∙◌, ap, subst, inl, inr, arith, Contains}
use Rattle.std.specs.Prelude.{Result, Ok, Err, IfOk}
use Rattle.std.specs.declared.alloc.Global.{Global}
use Rattle.std.specs.declared.sync.Arc.{Arc}
use Rattle.std.proofs.lemmas.Bool.{cases_eq}
use Rattle.std.proofs.lemmas.List.{get_or_append_left, get_or-append_right, length-append, length-set, get_or-set_same, get_or-set_other}
use Rattle.cell_sets.specs.Grids.{Grid, entry, grid_of}
use Rattle.cell_sets.proofs.GridLemmas.{entry-grid_of}
use Rattle.quad_mat.specs.declared.entries.Entry.{Entry}
use Rattle.quad_mat.specs.declared.loading.Window.{Window}
use Rattle.quad_mat.specs.declared.loading.Body.{Body}
use Rattle.quad_mat.specs.declared.room.RowUnion.{RowUnion}
use Rattle.quad_mat.specs.Matrices.{HasSize, IsSingle, IsUnionOf, IsPart, IsCut}
use Rattle.quad_mat.specs.Rows.{found, RowHas, AreDifferent}
use Rattle.quad_mat.specs.Rooms.{IsRoom, IsSingleRow}
use Rattle.quad_mat.specs.Rows.{row_of}
use Rattle.quad_mat.specs.Loading.{PartHas, AreBelow, IsSource, IsBody, AreNumbersOf, MovedNumberHas, IsMatOf, BothHave}
use Rattle.quad_mat.specs.Products.{HasNothing}
use Rattle.quad_mat.specs.Views.{found_in, IsKept}
use Rattle.quad_mat.proofs.EntryLemmas.{has_found}
use Rattle.quad_mat.proofs.RoomLemmas.{first_none}

-- nothing is in the empty list
pub nothing : (s : ℕ) → Contains [] s → ⊥
nothing s has = omega (arith, has.1)

-- nothing taken away
minus_zero : (j : ℕ) → j - 0 ≡ j
minus_zero j = omega arith

-- nothing added
zero_add : (i : ℕ) → 0 + i ≡ i
zero_add i = omega arith

-- a grid of a function has so many rows and columns
pub grid_size : (rows columns : ℕ) (f : ℕ → ℕ → List ℕ) → HasSize rows columns (grid_of rows columns f)
unfolding grid_of
grid_size rows columns f = (refl, refl)

-- and so has what is equal to it
pub view_rows : (rows columns : ℕ) (f : ℕ → ℕ → List ℕ) (now : Grid) → grid_of rows columns f ≡ now → rows ≡ now.rows
view_rows rows columns f now is = sym (grid_size rows columns f).0 ∙ ap (λ (x : Grid). x.rows) is

pub view_columns : (rows columns : ℕ) (f : ℕ → ℕ → List ℕ) (now : Grid) → grid_of rows columns f ≡ now → columns ≡ now.columns
view_columns rows columns f now is = sym (grid_size rows columns f).1 ∙ ap (λ (x : Grid). x.columns) is

-- what a matrix keeps may be a source
pub body_source :
    (columns : ℕ) (cells : List (List ℕ)) (rows : List (List Entry)) (numbers : List ℕ)
    → IsBody columns cells rows numbers → IsSource cells rows
body_source columns cells rows numbers is = record {
  full = is.full;
  rising = λ n within. (is.each n within).rising;
  known = λ n within. (is.each n within).cells_below;
}

-- and so may a room
pub room_source :
    (columns : ℕ) (cells : List (List ℕ)) (rows : List (List Entry)) (unions : List RowUnion)
    → IsRoom columns cells rows unions → IsSource cells rows
room_source columns cells rows unions is = record {
  full = is.full;
  rising = λ n within. (is.each n within).rising;
  known = λ n within. (is.each n within).cells_below;
}

-- numbers of rows with what is given have what is the same
pub numbers_change :
    (Gives Other : ℕ → ℕ → ℕ → Type 0) (cells : List (List ℕ)) (rows : List (List Entry)) (numbers : List ℕ)
    → ((i column s : ℕ) → i < length numbers → Gives i column s ↔ Other i column s)
    → AreNumbersOf Gives cells rows numbers → AreNumbersOf Other cells rows numbers
numbers_change Gives Other cells rows numbers same are i within = (
  (are i within).0,
  (λ column s.
      let is = (are i within).1 column s in
      let to = same i column s within in
      ((λ h. to.0 (is.0 h)), (λ h. is.1 (to.1 h)))),
)

module _ {C : Type 0} (symbols : C → List ℕ) (rows columns : ℕ) where
  module _ (shared : Arc (Body C) Global) where
    abbrev cells : List (List ℕ)
    cells = map symbols shared.value.cells.items

    abbrev kept : List (List Entry)
    kept = shared.value.rows

    abbrev numbers : List ℕ
    numbers = shared.value.numbers

    -- an entry of the matrix is what its row has
    pub mat_entry :
        (i j : ℕ) → i < rows → j < columns
        → entry (grid_of rows columns (found_in symbols (Some shared))) i j
        ≡ found (map symbols shared.value.cells.items) (row_of shared.value.rows (get_or shared.value.numbers i 0)) j
    mat_entry i j in_rows in_columns = entry-grid_of rows columns (found_in symbols (Some shared)) i j in_rows in_columns

    -- the rows that come into a room have what the matrix has
    pub loaded_some :
        (w : Window) (first count : ℕ) (new_cells : List (List ℕ)) (new_rows : List (List Entry)) (new_numbers : List ℕ)
        → IsKept symbols rows columns (Some shared) → first + count ≤ rows → w.first + w.width ≤ columns → length new_numbers ≡ count
        → AreNumbersOf (MovedNumberHas w (map symbols shared.value.cells.items) shared.value.rows shared.value.numbers first) new_cells new_rows new_numbers
        → AreNumbersOf (λ i column s. PartHas w (grid_of rows columns (found_in symbols (Some shared))) (first + i) column s) new_cells new_rows new_numbers
    loaded_some w first count new_cells new_rows new_numbers is fits within same_count are =
        numbers_change (MovedNumberHas w cells kept numbers first)
        (λ i column s. PartHas w (grid_of rows columns (found_in symbols (Some shared))) (first + i) column s)
        new_cells new_rows new_numbers
        (λ i column s low.
        let in_rows : first + i < rows = omega (arith, fits, same_count, low) in
        let named : get_or numbers (first + i) 0 < length kept = is.1.within (first + i) (omega (arith, is.0, in_rows)) in
        let rising = (is.1.each (get_or numbers (first + i) 0) named).rising in (
          (λ h.
              let in_columns : h.0 < columns = omega (arith, h.1.1, within) in
              let has = has_found cells (row_of kept (get_or numbers (first + i) 0)) h.0 s rising in
              (h.0, h.1, rw (mat_entry (first + i) h.0 in_rows in_columns) (has.0 h.2))),
          (λ h.
              let in_columns : h.0 < columns = omega (arith, h.1.1, within) in
              let has = has_found cells (row_of kept (get_or numbers (first + i) 0)) h.0 s rising in
              (h.0, h.1, has.1 (rw (mat_entry (first + i) h.0 in_rows in_columns) at h.2))),
        ))
        are

  -- nothing comes of a matrix without symbols
  pub loaded_none :
      (w : Window) (first count room_columns : ℕ) (new_cells : List (List ℕ)) (new_rows : List (List Entry)) (unions : List RowUnion) (new_numbers : List ℕ)
      → first + count ≤ rows → w.first + w.width ≤ columns → length new_numbers ≡ count
      → IsRoom room_columns new_cells new_rows unions
      → ((i : ℕ) → i < length new_numbers → get_or new_numbers i 0 ≡ 0)
      → AreNumbersOf (λ i column s. PartHas w (grid_of rows columns (found_in symbols None)) (first + i) column s) new_cells new_rows new_numbers
  loaded_none w first count room_columns new_cells new_rows unions new_numbers fits within same_count room all i low =
      let in_rows : first + i < rows = omega (arith, fits, same_count, low) in
      rw (all i low) (
        room.some_row,
        (λ column s. (
          (λ h. absurd (first_none room_columns new_cells new_rows unions room column s h)),
          (λ h.
              let in_columns : h.0 < columns = omega (arith, h.1.1, within) in
              let none : entry (grid_of rows columns (found_in symbols None)) (first + i) h.0 ≡ [] =
              entry-grid_of rows columns (found_in symbols None) (first + i) h.0 in_rows in_columns in
              absurd (nothing s (rw none at h.2))),
        )),
      )

  -- rows of a room as a matrix
  pub packed_some :
      (shared : Arc (Body C) Global)
      → IsKept symbols rows columns (Some shared)
      → IsMatOf columns (map symbols shared.value.cells.items) shared.value.rows shared.value.numbers
      (grid_of rows columns (found_in symbols (Some shared)))
  packed_some shared is = record {
    size = (
      (grid_size rows columns (found_in symbols (Some shared))).0 ∙ sym is.0,
      (grid_size rows columns (found_in symbols (Some shared))).1,
    );
    each = λ i j s in_numbers in_columns.
        let in_rows : i < rows = omega (arith, is.0, in_numbers) in
        let named = is.1.within i in_numbers in
        let has = has_found (map symbols shared.value.cells.items) (row_of shared.value.rows (get_or shared.value.numbers i 0)) j s (is.1.each (get_or shared.value.numbers i 0) named).rising in
        rw (mat_entry shared i j in_rows in_columns) ((λ h. has.1 h), (λ h. has.0 h));
  }

-- what a room has may be kept
pub kept_room :
    {C : Type 0} (symbols : C → List ℕ) (count columns : ℕ) (shared : Arc (Body C) Global) (body : Body C) (unions : List RowUnion)
    → shared.value ≡ body → count ≡ length body.numbers
    → IsRoom columns (map symbols body.cells.items) body.rows unions → AreDifferent (map symbols body.cells.items)
    → AreBelow (length body.rows) body.numbers
    → IsKept symbols count columns (Some shared)
kept_room symbols count columns shared body unions same is_count room different below =
    rw same (sym is_count, record { full = room.full; different = different; each = room.each; within = below })

-- and then it is a matrix of its rows
pub packed_room :
    {C : Type 0} (symbols : C → List ℕ) (count columns : ℕ) (shared : Arc (Body C) Global) (body : Body C) (unions : List RowUnion)
    → shared.value ≡ body → count ≡ length body.numbers
    → IsRoom columns (map symbols body.cells.items) body.rows unions → AreDifferent (map symbols body.cells.items)
    → AreBelow (length body.rows) body.numbers
    → IsMatOf columns (map symbols body.cells.items) body.rows body.numbers (grid_of count columns (found_in symbols (Some shared)))
packed_room {C = C} symbols count columns shared body unions same is_count room different below =
    let At : Body C → Type 0 =
    λ b. IsMatOf columns (map symbols b.cells.items) b.rows b.numbers (grid_of count columns (found_in symbols (Some shared))) in
    subst At same
    (packed_some symbols count columns shared (kept_room symbols count columns shared body unions same is_count room different below))

-- a room with the empty row alone is a matrix without symbols
pub packed_none :
    (columns : ℕ) (cells : List (List ℕ)) (rows : List (List Entry)) (unions : List RowUnion) (numbers : List ℕ) (mat : Grid)
    → IsRoom columns cells rows unions → AreBelow (length rows) numbers → length rows ≡ 1
    → HasSize (length numbers) columns mat
    → ((i j : ℕ) → i < length numbers → j < columns → entry mat i j ≡ [])
    → IsMatOf columns cells rows numbers mat
packed_none columns cells rows unions numbers mat room below one size none = record {
  size = size;
  each = λ i j s in_numbers in_columns.
      let first : get_or numbers i 0 ≡ 0 = omega (arith, below i in_numbers, one) in
      rw (none i j in_numbers in_columns, first) (
        (λ h. absurd (nothing s h)),
        (λ h. absurd (first_none columns cells rows unions room j s h)),
      );
}

-- the whole window
abbrev pub whole : ℕ → Window
whole columns = record { first = 0; width = columns; to = 0 }

-- rows that came into another room are the same matrix
pub finished_rows :
    (columns : ℕ) (cells used_cells : List (List ℕ)) (rows used_rows : List (List Entry)) (numbers used : List ℕ) (mat : Grid)
    → length used ≡ length numbers
    → AreNumbersOf (MovedNumberHas (whole columns) cells rows numbers 0) used_cells used_rows used
    → IsMatOf columns used_cells used_rows used mat
    → IsMatOf columns cells rows numbers mat
finished_rows columns cells used_cells rows used_rows numbers used mat count are is = record {
  size = (is.size.0 ∙ count, is.size.1);
  each = λ i j s in_numbers in_columns.
      let in_used : i < length used = omega (arith, count, in_numbers) in
      let has = is.each i j s in_used in_columns in
      let moved = rw (zero_add i) at ((are i in_used).1 j s) in (
        (λ h.
            let x = moved.0 (has.0 h) in
            let At : ℕ → Type 0 = λ n. RowHas cells (row_of rows (get_or numbers i 0)) n s in
            let same : x.0 ≡ j = omega (arith, x.1.2) in
            subst At same x.2),
        (λ h. has.1 (moved.1 (j, (omega arith, omega (arith, in_columns), refl), h))),
      );
}

-- of what succeeds two facts give a third
pub on_both :
    {A E : Type 0} (r : Result A E) (P Q R : A → Type 0)
    → ((x : A) → P x → Q x → R x) → IfOk r P → IfOk r Q → IfOk r R
on_both (Ok x) P Q R then p q = then x p q
on_both (Err e) P Q R then p q = tt

module _ (a b : Grid) (to : ℕ) (cells : List (List ℕ)) (rows : List (List Entry)) (numbers : List ℕ)
    (same : a.rows ≡ b.rows) (count : length numbers ≡ a.rows) where
  -- what one matrix has is what both have, where the other has nothing
  pub left_alone :
      HasNothing b → AreNumbersOf (λ i column s. PartHas (whole a.columns) a (0 + i) column s) cells rows numbers
      → AreNumbersOf (BothHave a b to) cells rows numbers
  left_alone empty are =
      numbers_change (λ i column s. PartHas (whole a.columns) a (0 + i) column s) (BothHave a b to) cells rows numbers
      (λ i column s within.
      let inside : i < b.rows = omega (arith, within, count, same) in
      rw (zero_add i) (
        (λ h.
            let At : ℕ → Type 0 = λ n. Contains (entry a i n) s in
            let here : h.0 ≡ column = omega (arith, h.1.2) in
            inl (omega (arith, here, h.1.1), subst At here h.2)),
        (elim [
          | inl h ↦ (column, (omega arith, omega (arith, h.0), refl), h.1)
          | inr h ↦ absurd (nothing s (rw (empty i (column - to) inside (omega (arith, h.0, h.1))) at h.2))
        ]),
      ))
      are

  pub right_alone :
      HasNothing a
      → AreNumbersOf (λ i column s. PartHas (record { first = 0; width = b.columns; to = to }) b (0 + i) column s) cells rows numbers
      → AreNumbersOf (BothHave a b to) cells rows numbers
  right_alone empty are =
      numbers_change (λ i column s. PartHas (record { first = 0; width = b.columns; to = to }) b (0 + i) column s)
      (BothHave a b to) cells rows numbers
      (λ i column s within.
      let inside : i < a.rows = omega (arith, within, count) in
      rw (zero_add i) (
        (λ h.
            let At : ℕ → Type 0 = λ n. Contains (entry b i n) s in
            let here : h.0 ≡ column - to = omega (arith, h.1.2) in
            inr (omega (arith, h.1.2), omega (arith, h.1.1, h.1.2), subst At here h.2)),
        (elim [
          | inl h ↦ absurd (nothing s (rw (empty i column inside h.0) at h.1))
          | inr h ↦ (column - to, (omega arith, omega (arith, h.0, h.1), omega (arith, h.0)), h.2)
        ]),
      ))
      are

-- the union of two matrices
pub union_rows :
    (a b mat : Grid) (cells : List (List ℕ)) (rows : List (List Entry)) (numbers : List ℕ)
    → b.columns ≡ a.columns → length numbers ≡ a.rows
    → AreNumbersOf (BothHave a b 0) cells rows numbers
    → IsMatOf a.columns cells rows numbers mat → IsUnionOf a b mat
union_rows a b mat cells rows numbers same count are is = record {
  size = (is.size.0 ∙ count, is.size.1);
  each = λ i j in_rows in_columns s.
      let within : i < length numbers = omega (arith, count, in_rows) in
      let has = is.each i j s within in_columns in
      let both = (are i within).1 j s in
      let At : ℕ → Type 0 = λ n. Contains (entry b i n) s in (
        (λ h. elim (both.0 (has.0 h)) [ inl u ↦ inl u.1 | inr u ↦ inr (subst At (minus_zero j) u.2) ]),
        (elim [
          | inl h ↦ has.1 (both.1 (inl (in_columns, h)))
          | inr h ↦ has.1 (both.1 (inr (omega arith, omega (arith, in_columns, same), subst At (sym (minus_zero j)) h)))
        ]),
      );
}

-- a part of a matrix
pub part_rows :
    (whole part : Grid) (w : Window) (row columns : ℕ) (cells : List (List ℕ)) (rows : List (List Entry)) (numbers : List ℕ)
    → w.to ≡ 0 → w.width ≡ columns
    → AreNumbersOf (λ i column s. PartHas w whole (row + i) column s) cells rows numbers
    → IsMatOf columns cells rows numbers part → IsPart part whole row w.first
part_rows whole part w row columns cells rows numbers start width are is i j in_rows in_columns s =
    let within : i < length numbers = omega (arith, is.size.0, in_rows) in
    let low : j < columns = omega (arith, is.size.1, in_columns) in
    let has = is.each i j s within low in
    let moved = (are i within).1 j s in (
      (λ h.
          let x = moved.0 (has.0 h) in
          let At : ℕ → Type 0 = λ n. Contains (entry whole (row + i) n) s in
          let there : x.0 ≡ w.first + j = omega (arith, x.1.2, start) in
          subst At there x.2),
      (λ h.
          has.1 (moved.1 (w.first + j, (omega arith, omega (arith, low, width), omega (arith, start)), h))),
    )

-- four parts put together
pub gathered_rows :
    (a11 a12 a21 a22 mat : Grid) (columns : ℕ) (cells : List (List ℕ)) (rows : List (List Entry)) (upper lower : List ℕ)
    → a11.rows ≡ a12.rows → a21.rows ≡ a22.rows → a11.columns ≡ a21.columns → a12.columns ≡ a22.columns
    → columns ≡ a11.columns + a12.columns
    → length upper ≡ a11.rows → length lower ≡ a21.rows
    → AreNumbersOf (BothHave a11 a12 a11.columns) cells rows upper
    → AreNumbersOf (BothHave a21 a22 a11.columns) cells rows lower
    → IsMatOf columns cells rows (upper ++ lower) mat
    → IsCut mat a11.rows a11.columns a11 a12 a21 a22
gathered_rows a11 a12 a21 a22 mat columns cells rows upper lower same_upper same_lower same_left same_right same count below up low is = record {
  rows = is.size.0 ∙ omega (arith, longer, count, below);
  columns = is.size.1 ∙ same;
  size11 = (refl, refl);
  size12 = (sym same_upper, refl);
  size21 = (refl, sym same_left);
  size22 = (sym same_lower, sym same_right);
  part11 = λ i j in_rows in_columns s.
      let has = upper_has (0 + i) (0 + j) i j s (omega arith) (omega arith) in_rows (omega (arith, same, in_columns)) in (
        (λ h. has.1 (inl (in_columns, h))),
        (λ h. elim (has.0 h) [ inl u ↦ u.1 | inr u ↦ absurd (omega (arith, u.0, in_columns)) ]),
      );
  part12 = λ i j in_rows in_columns s.
      let has = upper_has (0 + i) (a11.columns + j) i (a11.columns + j) s (omega arith) refl (omega (arith, same_upper, in_rows)) (omega (arith, same, in_columns)) in
      let back : a11.columns + j - a11.columns ≡ j = omega arith in
      let At : ℕ → Type 0 = λ n. Contains (entry a12 i n) s in (
        (λ h. has.1 (inr (omega arith, omega (arith, in_columns), subst At (sym back) h))),
        (λ h. elim (has.0 h) [ inl u ↦ absurd (omega (arith, u.0)) | inr u ↦ subst At back u.2 ]),
      );
  part21 = λ i j in_rows in_columns s.
      let has = lower_has (0 + j) i j s (omega arith) in_rows (omega (arith, same, same_left, in_columns)) in (
        (λ h. has.1 (inl (in_columns, h))),
        (λ h. elim (has.0 h) [ inl u ↦ u.1 | inr u ↦ absurd (omega (arith, u.0, same_left, in_columns)) ]),
      );
  part22 = λ i j in_rows in_columns s.
      let has = lower_has (a11.columns + j) i (a11.columns + j) s refl (omega (arith, same_lower, in_rows)) (omega (arith, same, same_right, in_columns)) in
      let back : a11.columns + j - a11.columns ≡ j = omega arith in
      let At : ℕ → Type 0 = λ n. Contains (entry a22 i n) s in (
        (λ h. has.1 (inr (omega arith, omega (arith, in_columns), subst At (sym back) h))),
        (λ h. elim (has.0 h) [ inl u ↦ absurd (omega (arith, u.0, same_left)) | inr u ↦ subst At back u.2 ]),
      );
}
  where
    longer : length (upper ++ lower) ≡ length upper + length lower
    longer = length-append upper lower

    upper_has :
        (r c i j s : ℕ) → r ≡ i → c ≡ j → i < a11.rows → j < columns
        → Contains (entry mat r c) s ↔ BothHave a11 a12 a11.columns i j s
    upper_has r c i j s same_row same_column in_rows in_columns =
        let within : i < length upper = omega (arith, count, in_rows) in
        let has = is.each i j s (omega (arith, longer, within)) in_columns in
        let there : get_or (upper ++ lower) i 0 ≡ get_or upper i 0 = get_or_append_left upper lower 0 i within in
        let both = (up i within).1 j s in
        let moved = rw there at has in
        rw (same_row, same_column) ((λ h. both.0 (moved.0 h)), (λ h. moved.1 (both.1 h)))

    lower_has :
        (c i j s : ℕ) → c ≡ j → i < a21.rows → j < columns
        → Contains (entry mat (a11.rows + i) c) s ↔ BothHave a21 a22 a11.columns i j s
    lower_has c i j s same_column in_rows in_columns =
        let within : i < length lower = omega (arith, below, in_rows) in
        let has = is.each (a11.rows + i) j s (omega (arith, longer, count, within)) in_columns in
        let At : ℕ → Type 0 = λ n. get_or (upper ++ lower) (a11.rows + i) 0 ≡ get_or lower n 0 in
        let back : a11.rows + i - length upper ≡ i = omega (arith, count) in
        let there : get_or (upper ++ lower) (a11.rows + i) 0 ≡ get_or lower i 0 =
        subst At back (get_or-append_right upper lower (length upper) (a11.rows + i) 0 refl (omega (arith, count))) in
        let both = (low i within).1 j s in
        let moved = rw there at has in
        rw same_column ((λ h. both.0 (moved.0 h)), (λ h. moved.1 (both.1 h)))

-- one row with one entry
pub single_rows :
    (rows columns i j : ℕ) (symbols : List ℕ) (cells : List (List ℕ)) (kept : List (List Entry)) (unions : List RowUnion) (numbers : List ℕ) (n : ℕ) (mat : Grid)
    → i < rows → length numbers ≡ rows → ((k : ℕ) → k < length numbers → get_or numbers k 0 ≡ 0)
    → IsRoom columns cells kept unions → IsSingleRow cells kept j symbols n
    → IsMatOf columns cells kept (set numbers i n) mat
    → IsSingle rows columns i j symbols mat
single_rows rows columns i j symbols cells kept unions numbers n mat in_rows count all room single is = record {
  size = (is.size.0 ∙ length-set numbers i n ∙ count, is.size.1);
  each = λ m k s in_row in_column.
      let has = is.each m k s (omega (arith, length-set numbers i n, count, in_row)) in_column in
      elim (cases_eq m i) [
        | inl same ↦
            let there : get_or (set numbers i n) m 0 ≡ n =
            ap (λ x. get_or (set numbers i n) x 0) same ∙ get_or-set_same numbers i n 0 (omega (arith, count, in_rows)) in
            let moved = rw there at has in (
              (λ h. let x = (single.1 k s).0 (moved.0 h) in (same, x.0, x.1)),
              (λ h. moved.1 ((single.1 k s).1 (h.1, h.2))),
            )
        | inr other ↦
            let there : get_or (set numbers i n) m 0 ≡ 0 =
            get_or-set_other numbers i m n 0 other ∙ all m (omega (arith, count, in_row)) in
            let moved = rw there at has in (
              (λ h. absurd (first_none columns cells kept unions room k s (moved.0 h))),
              (λ h. absurd (other h.0)),
            )
      ];
}

-- and those numbers are of rows
pub single_below :
    (i n count : ℕ) (numbers : List ℕ) → n < count → 0 < count
    → ((k : ℕ) → k < length numbers → get_or numbers k 0 ≡ 0) → i < length numbers → AreBelow count (set numbers i n)
single_below i n count numbers within some all in_rows k low =
    elim (cases_eq k i) [
      | inl same ↦
          let there : get_or (set numbers i n) k 0 ≡ n =
          ap (λ x. get_or (set numbers i n) x 0) same ∙ get_or-set_same numbers i n 0 in_rows in
          rw there within
      | inr other ↦
          rw (get_or-set_other numbers i k n 0 other, all k (omega (arith, length-set numbers i n, low))) some
    ]

-- an empty cell is no entry
pub single_none :
    (rows columns i j : ℕ) (symbols : List ℕ) (mat : Grid)
    → symbols ≡ [] → HasSize rows columns mat → ((m n : ℕ) → m < rows → n < columns → entry mat m n ≡ [])
    → IsSingle rows columns i j symbols mat
single_none rows columns i j symbols mat none size empty = record {
  size = size;
  each = λ m n s in_row in_column. rw (empty m n in_row in_column, none) (
    (λ h. absurd (nothing s h)),
    (λ h. absurd (nothing s h.2)),
  );
}

module _ {C : Type 0} (symbols : C → List ℕ) (rows columns : ℕ) (shared : Arc (Body C) Global)
    (is : IsKept symbols rows columns (Some shared)) where
  -- what a matrix keeps may be a source
  pub kept_source : IsSource (map symbols shared.value.cells.items) shared.value.rows
  kept_source =
      body_source columns (map symbols shared.value.cells.items) shared.value.rows shared.value.numbers is.1

  -- what a row has is an entry of the matrix
  pub kept_entry :
      (now : Grid) (i j : ℕ)
      → grid_of rows columns (found_in symbols (Some shared)) ≡ now → i < now.rows → j < now.columns
      → found (map symbols shared.value.cells.items) (row_of shared.value.rows (get_or shared.value.numbers i 0)) j ≡ entry now i j
  kept_entry now i j view in_rows in_columns =
      let r : rows ≡ now.rows = view_rows rows columns (found_in symbols (Some shared)) now view in
      let k : columns ≡ now.columns = view_columns rows columns (found_in symbols (Some shared)) now view in
      sym (mat_entry symbols rows columns shared i j (omega (arith, r, in_rows)) (omega (arith, k, in_columns)))
      ∙ ap (λ (x : Grid). entry x i j) view

-- an entry of a matrix that keeps nothing is empty
pub none_entry :
    {C : Type 0} (symbols : C → List ℕ) (rows columns : ℕ) (now : Grid) (i j : ℕ)
    → grid_of rows columns (found_in symbols None) ≡ now → i < now.rows → j < now.columns
    → entry now i j ≡ []
none_entry symbols rows columns now i j view in_rows in_columns =
    let r : rows ≡ now.rows = view_rows rows columns (found_in symbols None) now view in
    let k : columns ≡ now.columns = view_columns rows columns (found_in symbols None) now view in
    sym (ap (λ (x : Grid). entry x i j) view)
    ∙ entry-grid_of rows columns (found_in symbols None) i j (omega (arith, r, in_rows)) (omega (arith, k, in_columns))
