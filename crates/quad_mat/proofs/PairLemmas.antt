-- Rows of two matrices that come into a room together.
use Rattle.std.proofs.Common.{◌≡◌, ℕ, ◌-◌, ◌<◌, List, [], ◌∷◌, ◌++◌, Option, length, get_or, map, refl, subst, inl, inr, arith, Contains}
use Rattle.std.specs.Prelude.{Some, IfSome}
use Rattle.cell_sets.specs.Grids.{Grid, entry}
use Rattle.quad_mat.specs.declared.entries.Entry.{Entry}
use Rattle.quad_mat.specs.declared.loading.Body.{Body}
use Rattle.quad_mat.specs.declared.pairs.Windows.{Windows}
use Rattle.quad_mat.specs.declared.pairs.KnownPair.{KnownPair}
use Rattle.quad_mat.specs.declared.pairs.PairRow.{PairRow}
use Rattle.quad_mat.specs.declared.room.RowUnion.{RowUnion}
use Rattle.quad_mat.specs.Rows.{row_of}
use Rattle.quad_mat.specs.Rooms.{IsRowUnion, IsRoom, RoomGrows}
use Rattle.quad_mat.specs.Loading.{IsKnown, IsMovedRow, AreNumbersOf, BothHave}
use Rattle.quad_mat.specs.Products.{Keeps}
use Rattle.quad_mat.specs.Pairs.{beside, IsPairRow, KnowsPair, PairHas}
use Rattle.quad_mat.proofs.RoomLemmas.{room_then}
use Rattle.quad_mat.proofs.LoadingLemmas.{known_kept, moved_kept, numbers_grow, numbers_push}
use Rattle.quad_mat.proofs.MatLemmas.{numbers_change}

module _ (columns : ℕ) (cells new_cells : List (List ℕ)) (rows new_rows : List (List Entry)) (unions after : List RowUnion)
    (room : IsRoom columns cells rows unions) (grows : RoomGrows columns cells rows new_cells new_rows after) where
  module _ {C : Type 0} (symbols : C → List ℕ) (left right : Body C) (w : Windows) where
    -- one pair of rows more
    pub pair_next :
        (numbers : List ℕ) (i n m both : ℕ)
        → n ≡ get_or left.numbers i 0 → m ≡ get_or right.numbers i 0 → length numbers ≡ i
        → IsPairRow symbols left right w n m new_cells new_rows both
        → AreNumbersOf (PairHas symbols left right w) cells rows numbers
        → AreNumbersOf (PairHas symbols left right w) new_cells new_rows (numbers ++ both ∷ [])
    pair_next numbers i n m both read_n read_m place is are =
        let Gives = PairHas symbols left right w in
        numbers_push Gives new_cells new_rows numbers both
        (numbers_grow Gives columns cells new_cells rows new_rows unions numbers room grows.cells_grow grows.rows_grow are)
        is.0 (λ column s. rw (place, ← read_n, ← read_m) (is.1 column s))

-- a row of each that came into the room, and their union
module _ (columns : ℕ) (one_cells two_cells new_cells : List (List ℕ)) (one two new : List (List Entry))
    (one_unions two_unions after : List RowUnion) (room : IsRoom columns one_cells one one_unions)
    (second : RoomGrows columns one_cells one two_cells two two_unions)
    (third : RoomGrows columns two_cells two new_cells new after) where
  both : RoomGrows columns one_cells one new_cells new after
  both = room_then columns one_cells two_cells new_cells one two new two_unions after second third

  module _ {C : Type 0} (symbols : C → List ℕ) (left right : Body C) (w : Windows) where
    pub pair_known :
        (known : KnownPair)
        → IsKnown w.left (map symbols left.cells.items) left.rows one_cells one known.one.cells known.one.rows
        → IsKnown w.right (map symbols right.cells.items) right.rows two_cells two known.other.cells known.other.rows
        → KnowsPair symbols left right w new_cells new known
    pair_known known is_left is_right = record {
      of_left =
          known_kept columns one_cells new_cells one new one_unions after room both w.left
          (map symbols left.cells.items) left.rows known.one.cells known.one.rows is_left;
      of_right =
          known_kept columns two_cells new_cells two new two_unions after second.room third w.right
          (map symbols right.cells.items) right.rows known.other.cells known.other.rows is_right;
    }

    pub pair_row :
        (n m a b sum : ℕ)
        → IsMovedRow w.left (map symbols left.cells.items) (row_of left.rows n) one_cells one a
        → IsMovedRow w.right (map symbols right.cells.items) (row_of right.rows m) two_cells two b
        → IsRowUnion new_cells new a b sum
        → IsPairRow symbols left right w n m new_cells new sum
    pair_row n m a b sum is_a is_b union =
        let la =
        moved_kept columns one_cells new_cells one new one_unions after room both w.left
        (map symbols left.cells.items) (row_of left.rows n) a is_a in
        let lb =
        moved_kept columns two_cells new_cells two new two_unions after second.room third w.right
        (map symbols right.cells.items) (row_of right.rows m) b is_b in (
          union.2,
          (λ column s.
              let is = union.3 column s in
              let l = la.1 column s in
              let r = lb.1 column s in (
                (λ h. elim (is.0 h) [ inl u ↦ inl (l.0 u) | inr u ↦ inr (r.0 u) ]),
                (elim [ inl u ↦ is.1 (inl (l.1 u)) | inr u ↦ is.1 (inr (r.1 u)) ]),
              )),
        )

-- the pair that was made is of these rows
pub pair_named :
    {C : Type 0} (symbols : C → List ℕ) (left right : Body C) (w : Windows) (cells : List (List ℕ)) (rows : List (List Entry))
    (p : PairRow) (n m : ℕ)
    → p.left ≡ n → p.right ≡ m → IsPairRow symbols left right w n m cells rows p.both
    → IsPairRow symbols left right w p.left p.right cells rows p.both
pair_named symbols left right w cells rows p n m is_n is_m is = rw (is_n, is_m) is

-- what the windows have of both is what the matrices have
pub paired_both :
    {C : Type 0} (symbols : C → List ℕ) (one other : Body C) (a b : Grid) (to : ℕ) (w : Windows)
    (cells : List (List ℕ)) (rows : List (List Entry)) (numbers : List ℕ)
    → w ≡ beside a.columns b.columns to
    → Keeps symbols one a → Keeps symbols other b → a.rows ≡ b.rows → length numbers ≡ a.rows
    → AreNumbersOf (PairHas symbols one other w) cells rows numbers
    → AreNumbersOf (BothHave a b to) cells rows numbers
paired_both symbols one other a b to w cells rows numbers is_w keeps_a keeps_b same count are =
    let v : Windows = beside a.columns b.columns to in
    let At : Windows → Type 0 = λ x. AreNumbersOf (PairHas symbols one other x) cells rows numbers in
    numbers_change (PairHas symbols one other v) (BothHave a b to) cells rows numbers
    (λ i column s within.
    let in_one : i < length one.numbers = omega (arith, count, within, keeps_a.rows.size.0) in
    let in_other : i < length other.numbers = omega (arith, count, within, same, keeps_b.rows.size.0) in (
      (elim [
        | inl h ↦
            let inside : h.0 < a.columns = omega (arith, h.1.1) in
            let Has : ℕ → Type 0 = λ n. Contains (entry a i n) s in
            let here : h.0 ≡ column = omega (arith, h.1.2) in
            inl (omega (arith, here, inside), subst Has here ((keeps_a.rows.each i h.0 s in_one inside).1 h.2))
        | inr h ↦
            let inside : h.0 < b.columns = omega (arith, h.1.1) in
            let Has : ℕ → Type 0 = λ n. Contains (entry b i n) s in
            let here : h.0 ≡ column - to = omega (arith, h.1.2) in
            inr (omega (arith, h.1.2), omega (arith, inside, h.1.2), subst Has here ((keeps_b.rows.each i h.0 s in_other inside).1 h.2))
      ]),
      (elim [
        | inl h ↦
            inl (column, (omega arith, omega (arith, h.0), refl), (keeps_a.rows.each i column s in_one h.0).0 h.1)
        | inr h ↦
            let inside : column - to < b.columns = omega (arith, h.0, h.1) in
            inr (column - to, (omega arith, omega (arith, h.0, h.1), omega (arith, h.0)), (keeps_b.rows.each i (column - to) s in_other inside).0 h.2)
      ]),
    ))
    (subst At is_w are)

-- the last pair is of the rows that it names
pub pair_again :
    {C : Type 0} (symbols : C → List ℕ) (left right : Body C) (w : Windows) (cells : List (List ℕ)) (rows : List (List Entry))
    (last : Option PairRow) (p : PairRow) (n m : ℕ)
    → last ≡ Some p → p.left ≡ n → p.right ≡ m
    → IfSome last (λ q. IsPairRow symbols left right w q.left q.right cells rows q.both)
    → IsPairRow symbols left right w n m cells rows p.both
pair_again symbols left right w cells rows last p n m is is_n is_m known =
    rw (is, is_n, is_m) at known
