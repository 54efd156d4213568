-- Serves the proofs alone. Pairs: a row of each of two matrices comes into a room, and of each the
-- columns of a window; what is kept there is their union.
use Rattle.std.specs.Prelude.{ℕ, ◌+◌, ◌<◌, ◌≤◌, ◌↔◌, ◌⊎◌, List, length, map, slice_index}
use Rattle.quad_mat.specs.declared.entries.Entry.{Entry}
use Rattle.quad_mat.specs.declared.loading.Body.{Body}
use Rattle.quad_mat.specs.declared.pairs.Windows.{Windows}
use Rattle.quad_mat.specs.declared.pairs.KnownPair.{KnownPair}
use Rattle.quad_mat.specs.Rows.{row_of}
use Rattle.quad_mat.specs.Rooms.{NumberHas}
use Rattle.quad_mat.specs.Loading.{IsKnown, IsSource, MovedHas}

-- two matrices whole, of so many columns, of which the second stands from this column on
abbrev pub beside : ℕ → ℕ → ℕ → Windows
beside left right to = record {
  left = record { first = 0; width = left; to = 0 };
  right = record { first = 0; width = right; to = to };
}

-- two matrices may be sources, and the windows move their columns to some that there are
pub record IsPair {C : Type 0} (symbols : C → List ℕ) (left right : Body C) (w : Windows)
    (columns : ℕ) : Type 0 where
  pub is_left : IsSource (map symbols left.cells.items) left.rows
  pub is_right : IsSource (map symbols right.cells.items) right.rows
  pub left_fits : w.left.to + w.left.width ≤ columns
  pub right_fits : w.right.to + w.right.width ≤ columns

-- what is known of cells and rows of two matrices
pub record KnowsPair {C : Type 0} (symbols : C → List ℕ) (left right : Body C) (w : Windows)
    (cells : List (List ℕ)) (rows : List (List Entry)) (known : KnownPair) : Type 0 where
  pub of_left :
      IsKnown w.left (map symbols left.cells.items) left.rows cells rows
      known.one.cells known.one.rows
  pub of_right :
      IsKnown w.right (map symbols right.cells.items) right.rows cells rows
      known.other.cells known.other.rows

-- row n of the one or row m of the other has the symbol, at the column to which its window moves it
abbrev pub RowsHave : {C : Type 0} → (C → List ℕ) → Body C → Body C → Windows → ℕ → ℕ → ℕ → ℕ
    → Type 0
RowsHave symbols left right w n m column s =
    MovedHas w.left (map symbols left.cells.items) (row_of left.rows n)
    (length (row_of left.rows n)) column s
    ⊎ MovedHas w.right (map symbols right.cells.items) (row_of right.rows m)
    (length (row_of right.rows m)) column s

-- the number is that of a row with what the windows have of row n of the one and row m of the other
abbrev pub IsPairRow : {C : Type 0} → (C → List ℕ) → Body C → Body C → Windows → ℕ → ℕ
    → List (List ℕ) → List (List Entry) → ℕ → Type 0
IsPairRow symbols left right w n m cells rows both =
    (both < length rows)
    × ((column s : ℕ) → NumberHas cells rows both column s
    ↔ RowsHave symbols left right w n m column s)

-- what the windows have of row i of two matrices
abbrev pub PairHas : {C : Type 0} → (C → List ℕ) → Body C → Body C → Windows → ℕ → ℕ → ℕ → Type 0
PairHas symbols left right w i column s =
    RowsHave symbols left right w (slice_index left.numbers i) (slice_index right.numbers i)
    column s
