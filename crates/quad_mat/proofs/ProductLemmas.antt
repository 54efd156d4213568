-- Products of rows, and of matrices.
use Rattle.std.proofs.Common.{◌≡◌, ℕ, ◌+◌, ◌<◌, ◌≤◌, ◌⊎◌, List, [], ◌∷◌, ◌++◌, Option, Some, length, get_or, slice_get, map, set, refl, sym, ◌∙◌, ap, subst, inl, inr, arith}
use Rattle.std.proofs.lemmas.List.{length-set}
use Rattle.std.specs.declared.alloc.Global.{Global}
use Rattle.std.specs.declared.sync.Arc.{Arc}
use Rattle.cell_sets.specs.Grids.{Grid, entry, grid_of}
use Rattle.spec_grammar.specs.Grammars.{Grammar}
use Rattle.quad_mat.specs.declared.entries.Entry.{Entry}
use Rattle.quad_mat.specs.declared.loading.Body.{Body}
use Rattle.quad_mat.specs.declared.room.Room.{Room}
use Rattle.quad_mat.specs.declared.room.RowUnion.{RowUnion}
use Rattle.quad_mat.specs.declared.images.Making.{Making}
use Rattle.quad_mat.specs.Matrices.{HasSize, IsInProduct, IsMatProduct}
use Rattle.quad_mat.specs.Rows.{cell_of, blank, column_at, Grows, row_of}
use Rattle.quad_mat.specs.Rooms.{IsRowUnion, IsRoom, RoomGrows}
use Rattle.quad_mat.specs.Loading.{AreNumbersOf, IsMatOf}
use Rattle.quad_mat.specs.Products.{RowMakes, IsImage, IsMakingOf, MakesMore, IsRowProduct, IsRowProductOf, AreRowProducts, ProductHas, IsProductMat, HasNothing, Keeps}
use Rattle.quad_mat.specs.Views.{found_in, IsKept}
use Rattle.quad_mat.proofs.EntryLemmas.{grows_length, grows_self, grows_then}
use Rattle.quad_mat.proofs.RoomLemmas.{number_grows, first_none}
use Rattle.quad_mat.proofs.LoadingLemmas.{set_cases, numbers_grow, numbers_push}
use Rattle.quad_mat.proofs.MatLemmas.{nothing, grid_size, packed_some}
use Rattle.quad_mat.proofs.ImageLemmas.{some_more, making_grows}

module _ (g : Grammar) (left right : List (List ℕ)) (source : List (List Entry)) (numbers : List ℕ) (row : List Entry) where
  -- the empty row is the product of no entries
  pub sum_start :
      (columns : ℕ) (cells : List (List ℕ)) (rows : List (List Entry)) (unions : List RowUnion)
      → IsRoom columns cells rows unions → IsRowProduct g left right source numbers row 0 cells rows 0
  sum_start columns cells rows unions room = (
    room.some_row,
    (λ column s. (
      (λ h. absurd (first_none columns cells rows unions room column s h)),
      (λ h. absurd (omega (arith, h.1))),
    )),
  )

  -- with the image of the row that an entry's column names
  pub sum_step :
      (columns : ℕ) (now mid new : List (List ℕ)) (rows mid_rows new_rows : List (List Entry)) (unions before after : List RowUnion)
      (count sum n image both : ℕ)
      → IsRoom columns now rows unions → Grows now mid → Grows rows mid_rows → IsRoom columns mid mid_rows before
      → RoomGrows columns mid mid_rows new new_rows after
      → n ≡ get_or numbers (column_at row count) 0
      → IsRowProduct g left right source numbers row count now rows sum
      → IsImage g (cell_of left (get_or row count blank).cell) right (row_of source n) mid mid_rows image
      → IsRowUnion new new_rows sum image both
      → IsRowProduct g left right source numbers row (count + 1) new new_rows both
  sum_step columns now mid new rows mid_rows new_rows unions before after count sum n image both room cells_grow rows_grow mid_room grows named is_sum is_image is_union = (
    is_union.2,
    (λ column s.
        let all_cells = grows_then now mid new cells_grow grows.cells_grow in
        let all_rows = grows_then rows mid_rows new_rows rows_grow grows.rows_grow in
        let gs = number_grows columns now rows unions room new new_rows sum column s all_cells all_rows is_sum.0 in
        let gi = number_grows columns mid mid_rows before mid_room new new_rows image column s grows.cells_grow grows.rows_grow is_image.0 in
        let Makes : ℕ → Type 0 =
        λ k. RowMakes g (cell_of left (get_or row k blank).cell) right (row_of source (get_or numbers (column_at row k) 0)) column s in
        let more = some_more Makes count in
        let sums = is_sum.1 column s in
        let has = rw named at (is_image.1 column s) in
        let union = is_union.3 column s in (
          (λ h. elim (union.0 h) [
            | inl u ↦ more.1 (inl (sums.0 (gs.1 u)))
            | inr u ↦ more.1 (inr (has.0 (gi.1 u)))
          ]),
          (λ h. elim (more.0 h) [
            | inl u ↦ union.1 (inl (gs.0 (sums.1 u)))
            | inr u ↦ union.1 (inr (gi.0 (has.1 u)))
          ]),
        )),
  )

  -- an entry that makes nothing is passed over
  pub sum_passed :
      (cells : List (List ℕ)) (rows : List (List Entry)) (count sum : ℕ)
      → ((column s : ℕ)
      → RowMakes g (cell_of left (get_or row count blank).cell) right
      (row_of source (get_or numbers (column_at row count) 0)) column s → ⊥)
      → IsRowProduct g left right source numbers row count cells rows sum
      → IsRowProduct g left right source numbers row (count + 1) cells rows sum
  sum_passed cells rows count sum none is = (
    is.0,
    (λ column s.
        let Makes : ℕ → Type 0 =
        λ k. RowMakes g (cell_of left (get_or row k blank).cell) right (row_of source (get_or numbers (column_at row k) 0)) column s in
        let more = some_more Makes count in
        let has = is.1 column s in (
          (λ h. more.1 (inl (has.0 h))),
          (λ h. elim (more.0 h) [
            | inl u ↦ has.1 u
            | inr u ↦ absurd (none column s u)
          ]),
        )),
  )

  -- all entries
  pub sum_all :
      (cells : List (List ℕ)) (rows : List (List Entry)) (count n : ℕ)
      → length row ≤ count → count ≤ length row
      → IsRowProduct g left right source numbers row count cells rows n
      → IsRowProduct g left right source numbers row (length row) cells rows n
  sum_all cells rows count n all low is =
      let end : count ≡ length row = omega (arith, all, low) in
      let At : ℕ → Type 0 = λ k. IsRowProduct g left right source numbers row k cells rows n in
      subst At end is

  -- a product of a row keeps its number in a room that grows
  pub row_product_grows :
      (columns : ℕ) (cells new_cells : List (List ℕ)) (rows new_rows : List (List Entry)) (unions : List RowUnion) (count n : ℕ)
      → IsRoom columns cells rows unions → Grows cells new_cells → Grows rows new_rows
      → IsRowProduct g left right source numbers row count cells rows n
      → IsRowProduct g left right source numbers row count new_cells new_rows n
  row_product_grows columns cells new_cells rows new_rows unions count n room more_cells more_rows is = (
    omega (arith, grows_length rows new_rows more_rows, is.0),
    (λ column s.
        let same = number_grows columns cells rows unions room new_cells new_rows n column s more_cells more_rows is.0 in
        let has = is.1 column s in
        ((λ h. has.0 (same.1 h)), (λ h. same.0 (has.1 h)))),
  )

module _ {C : Type 0} (symbols : C → List ℕ) (g : Grammar) (left right : Body C) where
  -- what a product is made in, as it is
  pub more_self : (m : Making C) → IsMakingOf symbols g left right m → MakesMore symbols g left right m m
  more_self m making = record {
    columns = refl;
    cells_grow = grows_self (map symbols m.room.cells.items);
    rows_grow = grows_self m.room.rows;
    making = making;
  }

  -- it grows in steps
  pub more_then :
      (one two three : Making C)
      → MakesMore symbols g left right one two → MakesMore symbols g left right two three
      → MakesMore symbols g left right one three
  more_then one two three first second = record {
    columns = second.columns ∙ first.columns;
    cells_grow =
        grows_then (map symbols one.room.cells.items) (map symbols two.room.cells.items)
        (map symbols three.room.cells.items) first.cells_grow second.cells_grow;
    rows_grow = grows_then one.room.rows two.room.rows three.room.rows first.rows_grow second.rows_grow;
    making = second.making;
  }

  -- its room alone grows
  pub more_room :
      (m : Making C) (room : Room C)
      → IsMakingOf symbols g left right m → room.columns ≡ m.room.columns
      → RoomGrows m.room.columns (map symbols m.room.cells.items) m.room.rows
      (map symbols room.cells.items) room.rows room.unions
      → MakesMore symbols g left right m (record { room = room; products = m.products; images = m.images })
  more_room m room making same grows = record {
    columns = same;
    cells_grow = grows.cells_grow;
    rows_grow = grows.rows_grow;
    making =
        rw same
        (making_grows g (map symbols left.cells.items) (map symbols right.cells.items) m.room.columns
        (map symbols m.room.cells.items) (map symbols room.cells.items) m.room.rows room.rows m.room.unions making.room
        grows.cells_grow grows.rows_grow right.rows room.unions m.products m.images grows.room making);
  }

  -- nothing is known at first
  pub row_products_none :
      (m : Making C) (known : List (Option ℕ))
      → length known ≡ length left.rows → ((n number : ℕ) → slice_get known n ≡ Some (Some number) → ⊥)
      → AreRowProducts symbols g left right m known
  row_products_none m known count none = record {
    count = count;
    each = λ n number is. absurd (none n number is);
  }

  -- one more is known
  pub row_products_set :
      (old new : Making C) (known : List (Option ℕ)) (n number : ℕ)
      → n < length left.rows → IsMakingOf symbols g left right old → MakesMore symbols g left right old new
      → IsRowProductOf symbols g left right (row_of left.rows n) (length (row_of left.rows n)) new number
      → AreRowProducts symbols g left right old known
      → AreRowProducts symbols g left right new (set known n (Some number))
  row_products_set old new known n number within making more is are = record {
    count = length-set known n (Some number) ∙ are.count;
    each = λ i m at. elim (set_cases known n number i m (omega (arith, are.count, within)) at) [
      | inl u ↦ rw (u.0, u.1) is
      | inr u ↦
          row_product_grows g (map symbols left.cells.items) (map symbols right.cells.items) right.rows right.numbers
          (row_of left.rows i) old.room.columns (map symbols old.room.cells.items) (map symbols new.room.cells.items)
          old.room.rows new.room.rows old.room.unions (length (row_of left.rows i)) m making.room more.cells_grow more.rows_grow
          (are.each i m u)
    ];
  }

  -- the number of one row more
  pub product_next :
      (old new : Making C) (numbers : List ℕ) (i n number : ℕ)
      → IsMakingOf symbols g left right old → MakesMore symbols g left right old new
      → n ≡ get_or left.numbers i 0 → length numbers ≡ i
      → IsRowProductOf symbols g left right (row_of left.rows n) (length (row_of left.rows n)) new number
      → AreNumbersOf (ProductHas symbols g left right) (map symbols old.room.cells.items) old.room.rows numbers
      → AreNumbersOf (ProductHas symbols g left right) (map symbols new.room.cells.items) new.room.rows (numbers ++ number ∷ [])
  product_next old new numbers i n number making more read place is are =
      let Gives = ProductHas symbols g left right in
      let cells = map symbols new.room.cells.items in
      let named : get_or left.numbers (length numbers) 0 ≡ n = ap (λ k. get_or left.numbers k 0) place ∙ sym read in
      numbers_push Gives cells new.room.rows numbers number
      (numbers_grow Gives old.room.columns (map symbols old.room.cells.items) cells old.room.rows new.room.rows old.room.unions
      numbers making.room more.cells_grow more.rows_grow are)
      is.0 (λ column s. rw named (is.1 column s))

  -- the rows as a matrix
  pub product_mat :
      (columns : ℕ) (cells : List (List ℕ)) (rows : List (List Entry)) (numbers : List ℕ) (mat : Grid)
      → length numbers ≡ length left.numbers
      → AreNumbersOf (ProductHas symbols g left right) cells rows numbers
      → IsMatOf columns cells rows numbers mat
      → IsProductMat symbols g left right columns mat
  product_mat columns cells rows numbers mat count are is = record {
    size = (is.size.0 ∙ count, is.size.1);
    each = λ i j s in_rows in_columns.
        let within : i < length numbers = omega (arith, count, in_rows) in
        let has = is.each i j s within in_columns in
        let makes = (are i within).1 j s in
        ((λ h. makes.0 (has.0 h)), (λ h. has.1 (makes.1 h)));
  }

  -- the rows' product is that of the matrices
  module _ (a b : Grid) (keeps_left : Keeps symbols left a) (keeps_right : Keeps symbols right b)
      (middle : a.columns ≡ b.rows) where
    abbrev cells : List (List ℕ)
    cells = map symbols left.cells.items

    abbrev others : List (List ℕ)
    others = map symbols right.cells.items

    makes_product :
        (i j s : ℕ) → i < length left.numbers → j < b.columns → ProductHas symbols g left right i j s → IsInProduct g a b i j s
    makes_product i j s in_rows in_columns (p, in_row, (q, in_other, (same, (x, y, has_x, has_y, makes)))) =
        let row : List Entry = row_of left.rows (get_or left.numbers i 0) in
        let k : ℕ = column_at row p in
        let is_row = keeps_left.body.each (get_or left.numbers i 0) (keeps_left.body.within i in_rows) in
        let in_middle : k < a.columns = is_row.columns_below p blank in_row in
        let in_right : k < length right.numbers = omega (arith, in_middle, middle, keeps_right.rows.size.0) in (
          k,
          in_middle,
          (
            x,
            y,
            (keeps_left.rows.each i k x in_rows in_middle).1 (p, in_row, (refl, has_x)),
            (keeps_right.rows.each k j y in_right in_columns).1 (q, in_other, (same, has_y)),
            makes,
          ),
        )

    product_makes :
        (i j s : ℕ) → i < length left.numbers → j < b.columns → IsInProduct g a b i j s → ProductHas symbols g left right i j s
    product_makes i j s in_rows in_columns (k, in_middle, (x, y, has_x, has_y, makes)) =
        let row : List Entry = row_of left.rows (get_or left.numbers i 0) in
        let in_right : k < length right.numbers = omega (arith, in_middle, middle, keeps_right.rows.size.0) in
        let one = (keeps_left.rows.each i k x in_rows in_middle).0 has_x in
        let other = (keeps_right.rows.each k j y in_right in_columns).0 has_y in
        let Makes : ℕ → Type 0 =
        λ c. RowMakes g (cell_of cells (get_or row one.0 blank).cell) others (row_of right.rows (get_or right.numbers c 0)) j s in
        let made : Makes k = (other.0, other.1, (other.2.0, (x, y, one.2.1, other.2.1, makes))) in
        (one.0, one.1, subst Makes (sym one.2.0) made)

    pub product_whole :
        (mat : Grid) → IsProductMat symbols g left right b.columns mat → IsMatProduct g a b mat
    product_whole mat is = record {
      size = (is.size.0 ∙ sym keeps_left.rows.size.0, is.size.1);
      each = λ i j s in_rows in_columns.
          let within : i < length left.numbers = omega (arith, keeps_left.rows.size.0, in_rows) in
          let has = is.each i j s within in_columns in (
            (λ h. makes_product i j s within in_columns (has.0 h)),
            (λ h. has.1 (product_makes i j s within in_columns h)),
          );
    }

-- nothing comes of a matrix without symbols
pub product_none :
    (g : Grammar) (a b mat : Grid)
    → HasNothing a ⊎ HasNothing b → a.columns ≡ b.rows
    → HasSize a.rows b.columns mat → ((i j : ℕ) → i < a.rows → j < b.columns → entry mat i j ≡ [])
    → IsMatProduct g a b mat
product_none g a b mat empty middle size none = record {
  size = size;
  each = λ i j s in_rows in_columns. rw (none i j in_rows in_columns) (
    (λ h. absurd (nothing s h)),
    (λ h. absurd (no_product i j s in_rows in_columns h)),
  );
}
  where
    no_product : (i j s : ℕ) → i < a.rows → j < b.columns → IsInProduct g a b i j s → ⊥
    no_product i j s in_rows in_columns (k, in_middle, (x, y, has_x, has_y, makes)) = elim empty [
      | inl u ↦ nothing x (rw (u i k in_rows in_middle) at has_x)
      | inr u ↦ nothing y (rw (u k j (omega (arith, in_middle, middle)) in_columns) at has_y)
    ]

-- what a matrix keeps
pub body_keeps :
    {C : Type 0} (symbols : C → List ℕ) (rows columns : ℕ) (shared : Arc (Body C) Global) (now : Grid)
    → IsKept symbols rows columns (Some shared) → grid_of rows columns (found_in symbols (Some shared)) ≡ now
    → Keeps symbols shared.value now
unfolding grid_of
body_keeps symbols rows columns shared now is view =
    let Kept : Grid → Type 0 = λ x. Keeps symbols shared.value x in
    subst Kept view (record {
      body = rw (grid_size rows columns (found_in symbols (Some shared))).1 is.1;
      rows = rw (grid_size rows columns (found_in symbols (Some shared))).1 (packed_some symbols rows columns shared is);
    })
