-- A row is closed under B from its first column on: what is there at a column is final, and is
-- multiplied with B before the next column is looked at.
use Rattle.std.proofs.Common.{◌≡◌, ℕ, ◌+◌, ◌<◌, ◌≤◌, ◌⊎◌, ◌↔◌, subst, inl, inr, arith}
use Rattle.std.proofs.lemmas.Bool.{cases_lt}
use Rattle.spec_grammar.specs.Grammars.{Grammar}
use Rattle.joins.specs.JoinedRows.{Make, JoinHas, AreJoined, IsClosedUpTo, AddsColumn}
use Rattle.joins.proofs.JoinLemmas.{make_more}

module _ (g : Grammar) (B : ℕ → ℕ → ℕ → Type 0) (columns : ℕ) (Start : ℕ → ℕ → Type 0) where
  -- at first the row is what it begins with
  pub close_start :
      (Row : ℕ → ℕ → Type 0) → ((j s : ℕ) → j < columns → Row j s ↔ Start j s)
      → IsClosedUpTo g B columns 0 Start Row
  close_start Row same j s within = (
    (λ has. inl ((same j s within).0 has)),
    (elim [
      | inl first ↦ (same j s within).1 first
      | inr (k, below, before, made) ↦ absurd (omega (arith, below))
    ]),
  )

  -- a column in which the row has nothing makes nothing
  pub close_skip :
      (k : ℕ) (Row : ℕ → ℕ → Type 0) → IsClosedUpTo g B columns k Start Row
      → ((s : ℕ) → Row k s → ⊥) → IsClosedUpTo g B columns (k + 1) Start Row
  close_skip k Row closed nothing j s within = (
    (λ has. elim ((closed j s within).0 has) [
      | inl first ↦ inl first
      | inr (x, below, before, made) ↦ inr (x, omega (arith, below), before, made)
    ]),
    (elim [
      | inl first ↦ (closed j s within).1 (inl first)
      | inr (x, below, before, made) ↦ elim (cases_lt x k) [
        | inl earlier ↦ (closed j s within).1 (inr (x, earlier, before, made))
        | inr later ↦
            let last : x ≡ k = omega (arith, below, later) in
            let Has : ℕ → Type 0 = λ y. Row y made.0 in
            absurd (nothing made.0 (subst Has last made.2))
      ]
    ]),
  )

  module _ (k : ℕ) (Old New : ℕ → ℕ → Type 0) (closed : IsClosedUpTo g B columns k Start Old)
      (adds : AddsColumn g B columns k Old New) where
    -- up to the column the row stays as it is
    stays : (j s : ℕ) → j ≤ k → j < columns → Old j s ↔ New j s
    stays j s early within = (
      (λ has. (adds j s within).1 (inl has)),
      (λ has. elim ((adds j s within).0 has) [
        | inl old ↦ old
        | inr (after, made) ↦ absurd (omega (arith, early, after))
      ]),
    )

    -- with what one column more makes
    pub close_more : IsClosedUpTo g B columns (k + 1) Start New
    close_more j s within = (to, from)
      where
        to : New j s → Start j s ⊎ ((x : ℕ) × (x < k + 1) × (x < j) × Make g (New x) (B x j) s)
        to has = elim ((adds j s within).0 has) [
          | inl old ↦ elim ((closed j s within).0 old) [
            | inl first ↦ inl first
            | inr (x, below, before, made) ↦
                inr (
                  x,
                  omega (arith, below),
                  before,
                  make_more g (Old x) (B x j) (New x) (B x j) s
                      (λ l. (stays x l (omega (arith, below)) (omega (arith, before, within))).0) (λ m has_m. has_m) made,
                )
          ]
          | inr (after, made) ↦
              inr (
                k,
                omega arith,
                after,
                make_more g (Old k) (B k j) (New k) (B k j) s
                    (λ l. (stays k l (omega arith) (omega (arith, after, within))).0) (λ m has_m. has_m) made,
              )
        ]

        from : Start j s ⊎ ((x : ℕ) × (x < k + 1) × (x < j) × Make g (New x) (B x j) s) → New j s
        from (inl first) = (adds j s within).1 (inl ((closed j s within).1 (inl first)))
        from (inr (x, below, before, made)) =
            let old = make_more g (New x) (B x j) (Old x) (B x j) s
            (λ l. (stays x l (omega (arith, below)) (omega (arith, before, within))).1) (λ m has_m. has_m) made in
            elim (cases_lt x k) [
              | inl earlier ↦ (adds j s within).1 (inl ((closed j s within).1 (inr (x, earlier, before, old))))
              | inr later ↦
                  let last : x ≡ k = omega (arith, below, later) in
                  let Adds : ℕ → Type 0 = λ y. (y < j) × Make g (Old y) (B y j) s in
                  (adds j s within).1 (inr (subst Adds last (before, old)))
            ]

  -- where no column is left that stands before another, the row solves the join of one row
  pub closed_joined :
      (limit : ℕ) (A C X : ℕ → ℕ → ℕ → Type 0) → columns ≤ limit + 1
      → ((j s : ℕ) → j < columns → Start j s ↔ C 0 j s)
      → IsClosedUpTo g B columns limit Start (X 0) → AreJoined g 1 columns A C B X
  closed_joined limit A C X all same closed i j s in_rows in_columns =
      let first : 0 ≡ i = omega (arith, in_rows) in
      let Row : ℕ → Type 0 = λ x. X x j s ↔ JoinHas g 1 A C B X x j s in
      subst Row first (
        (λ has. elim ((closed j s in_columns).0 has) [
          | inl start ↦ inl ((same j s in_columns).0 start)
          | inr (k, below, before, made) ↦ inr (inr (k, before, made))
        ]),
        (elim [
          | inl start ↦ (closed j s in_columns).1 (inl ((same j s in_columns).1 start))
          | inr (inl (k, below, within, made)) ↦ absurd (omega (arith, below, within))
          | inr (inr (k, before, made)) ↦
              (closed j s in_columns).1 (inr (k, omega (arith, before, in_columns, all), before, made))
        ]),
      )
