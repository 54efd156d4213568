-- Two rows are equal where their entries are.
use Rattle.std.proofs.Common.{◌≡◌, List, [], ◌∷◌, refl, Bool, true, ◌&&◌, nat_eq}
use Rattle.std.proofs.lemmas.Bool.{false≢true, and_parts, and_from, eqb-true, eq-eqb}
use Rattle.std.specs.Cmp.Lexicographic.{pointwise}
use Rattle.quad_mat.specs.declared.entries.Entry.{Entry}

-- entries that compare as equal are the same
pub entry_same : (x y : Entry) → (nat_eq x.column y.column && nat_eq x.cell y.cell) ≡ true → x ≡ y
entry_same x y h =
    let p = and_parts (nat_eq x.column y.column) (nat_eq x.cell y.cell) h in
    (λ i. record { column = eqb-true x.column y.column p.0 i; cell = eqb-true x.cell y.cell p.1 i })

-- an entry compares as equal to itself
pub entry_self : (x : Entry) → (nat_eq x.column x.column && nat_eq x.cell x.cell) ≡ true
entry_self x =
    and_from (nat_eq x.column x.column) (nat_eq x.cell x.cell) (eq-eqb x.column x.column refl) (eq-eqb x.cell x.cell refl)

module _ (E : Entry → Entry → Bool) (sound : (x y : Entry) → E x y ≡ true → x ≡ y) (self : (x : Entry) → E x x ≡ true) where
  -- and so rows
  pub rows_same : (xs ys : List Entry) → pointwise E xs ys ≡ true → xs ≡ ys
  rows_same [] [] h = refl
  rows_same [] (y ∷ ys) h = absurd (false≢true h)
  rows_same (x ∷ xs) [] h = absurd (false≢true h)
  rows_same (x ∷ xs) (y ∷ ys) h =
      let p = and_parts (E x y) (pointwise E xs ys) h in rw (sound x y p.0, rows_same xs ys p.1) refl

  -- a row compares as equal to itself
  pub row_self : (xs : List Entry) → pointwise E xs xs ≡ true
  row_self [] = refl
  row_self (x ∷ xs) = and_from (E x x) (pointwise E xs xs) (self x) (row_self xs)
