-- Joins row by row: there is one solution, the rows of the lower part are solved first, and a row is
-- closed from its first column on.
use Rattle.std.proofs.Common.{ℕ, zero, suc, ◌+◌, ◌-◌, ◌<◌, ◌≡◌, ◌↔◌, subst, inl, inr, arith}
use Rattle.std.proofs.lemmas.Bool.{cases_lt}
use Rattle.spec_grammar.specs.Grammars.{Grammar}
use Rattle.joins.specs.JoinedRows.{Make, JoinHas, AreJoined, WithCorner, HaveNothing}

module _ (g : Grammar) where
  -- what larger sets make
  pub make_more :
      (Left Right Left' Right' : ℕ → Type 0) (s : ℕ)
      → ((l : ℕ) → Left l → Left' l) → ((m : ℕ) → Right m → Right' m)
      → Make g Left Right s → Make g Left' Right' s
  make_more Left Right Left' Right' s left right (l, m, has_left, has_right, makes) =
      (l, m, left l has_left, right m has_right, makes)

  module _ (rows columns : ℕ) (A C B X Y : ℕ → ℕ → ℕ → Type 0) (is_x : AreJoined g rows columns A C B X)
      (is_y : AreJoined g rows columns A C B Y) where
    -- by the number of rows below and of columns before
    within_turns :
        (turns i j s : ℕ) → i < rows → j < columns → (rows - i) + j < turns → X i j s → Y i j s
    within_turns zero i j s in_rows in_columns few has = absurd (omega (arith, few))
    within_turns (suc turns) i j s in_rows in_columns few has =
        (is_y i j s in_rows in_columns).1 (elim ((is_x i j s in_rows in_columns).0 has) [
          | inl first ↦ inl first
          | inr (inl (k, below, within, made)) ↦
              let fewer : (rows - k) + j < turns = omega (arith, below, within, few) in
              inr (inl (
                k,
                below,
                within,
                make_more (A i k) (X k j) (A i k) (Y k j) s (λ l has_l. has_l)
                    (λ m. within_turns turns k j m within in_columns fewer) made,
              ))
          | inr (inr (k, before, made)) ↦
              let inside : k < columns = omega (arith, before, in_columns) in
              let fewer : (rows - i) + k < turns = omega (arith, before, few) in
              inr (inr (
                k,
                before,
                make_more (X i k) (B k j) (Y i k) (B k j) s
                    (λ l. within_turns turns i k l in_rows inside fewer) (λ m has_m. has_m) made,
              ))
        ])

    -- what one solution has, the other has
    pub solution_within : (i j s : ℕ) → i < rows → j < columns → X i j s → Y i j s
    solution_within i j s in_rows in_columns =
        within_turns ((rows - i) + j + 1) i j s in_rows in_columns (omega arith)

  -- a join is the same where A, C and B have the same symbols
  pub joined_same :
      (rows columns : ℕ) (A C B X A' C' B' : ℕ → ℕ → ℕ → Type 0)
      → ((i k l : ℕ) → i < k → k < rows → A i k l ↔ A' i k l)
      → ((i j s : ℕ) → i < rows → j < columns → C i j s ↔ C' i j s)
      → ((k j m : ℕ) → k < j → j < columns → B k j m ↔ B' k j m)
      → AreJoined g rows columns A C B X → AreJoined g rows columns A' C' B' X
  joined_same rows columns A C B X A' C' B' same_a same_c same_b is i j s in_rows in_columns = (to, from)
    where
      to : X i j s → JoinHas g rows A' C' B' X i j s
      to has = elim ((is i j s in_rows in_columns).0 has) [
        | inl first ↦ inl ((same_c i j s in_rows in_columns).0 first)
        | inr (inl (k, below, within, made)) ↦
            inr (inl (
              k,
              below,
              within,
              make_more (A i k) (X k j) (A' i k) (X k j) s
                  (λ l. (same_a i k l below within).0) (λ m has_m. has_m) made,
            ))
        | inr (inr (k, before, made)) ↦
            inr (inr (
              k,
              before,
              make_more (X i k) (B k j) (X i k) (B' k j) s
                  (λ l has_l. has_l) (λ m. (same_b k j m before in_columns).0) made,
            ))
      ]

      from : JoinHas g rows A' C' B' X i j s → X i j s
      from has = (is i j s in_rows in_columns).1 (elim has [
        | inl first ↦ inl ((same_c i j s in_rows in_columns).1 first)
        | inr (inl (k, below, within, made)) ↦
            inr (inl (
              k,
              below,
              within,
              make_more (A' i k) (X k j) (A i k) (X k j) s
                  (λ l. (same_a i k l below within).1) (λ m has_m. has_m) made,
            ))
        | inr (inr (k, before, made)) ↦
            inr (inr (
              k,
              before,
              make_more (X i k) (B' k j) (X i k) (B k j) s
                  (λ l has_l. has_l) (λ m. (same_b k j m before in_columns).1) made,
            ))
      ])

  -- and so are rows with the same symbols
  pub same_rows :
      (rows columns : ℕ) (A C B X X' : ℕ → ℕ → ℕ → Type 0)
      → ((i j s : ℕ) → i < rows → j < columns → X i j s ↔ X' i j s)
      → AreJoined g rows columns A C B X → AreJoined g rows columns A C B X'
  same_rows rows columns A C B X X' same is i j s in_rows in_columns = (to, from)
    where
      to : X' i j s → JoinHas g rows A C B X' i j s
      to has = elim ((is i j s in_rows in_columns).0 ((same i j s in_rows in_columns).1 has)) [
        | inl first ↦ inl first
        | inr (inl (k, below, within, made)) ↦
            inr (inl (
              k,
              below,
              within,
              make_more (A i k) (X k j) (A i k) (X' k j) s
                  (λ l has_l. has_l) (λ m. (same k j m within in_columns).0) made,
            ))
        | inr (inr (k, before, made)) ↦
            inr (inr (
              k,
              before,
              make_more (X i k) (B k j) (X' i k) (B k j) s
                  (λ l. (same i k l in_rows (omega (arith, before, in_columns))).0) (λ m has_m. has_m) made,
            ))
      ]

      from : JoinHas g rows A C B X' i j s → X' i j s
      from has = (same i j s in_rows in_columns).0 ((is i j s in_rows in_columns).1 (elim has [
        | inl first ↦ inl first
        | inr (inl (k, below, within, made)) ↦
            inr (inl (
              k,
              below,
              within,
              make_more (A i k) (X' k j) (A i k) (X k j) s
                  (λ l has_l. has_l) (λ m. (same k j m within in_columns).1) made,
            ))
        | inr (inr (k, before, made)) ↦
            inr (inr (
              k,
              before,
              make_more (X' i k) (B k j) (X i k) (B k j) s
                  (λ l. (same i k l in_rows (omega (arith, before, in_columns))).1) (λ m has_m. has_m) made,
            ))
      ]))

  module _ (columns upper lower : ℕ) (A C B X : ℕ → ℕ → ℕ → Type 0)
      (is_lower : AreJoined g lower columns (λ i k. A (upper + i) (upper + k)) (λ i. C (upper + i)) B (λ i. X (upper + i)))
      (is_upper : AreJoined g upper columns A (WithCorner g C (λ i k. A i (upper + k)) X upper lower) B X) where
    -- a row of the upper part
    upper_row :
        (i j s : ℕ) → i < upper → j < columns → X i j s ↔ JoinHas g (upper + lower) A C B X i j s
    upper_row i j s in_upper in_columns = (to, from)
      where
        to : X i j s → JoinHas g (upper + lower) A C B X i j s
        to has = elim ((is_upper i j s in_upper in_columns).0 has) [
          | inl (inl first) ↦ inl first
          | inl (inr (k, within, made)) ↦
              inr (inl (upper + k, omega (arith, in_upper), omega (arith, within), made))
          | inr (inl (k, below, within, made)) ↦ inr (inl (k, below, omega (arith, within), made))
          | inr (inr before) ↦ inr (inr before)
        ]

        from : JoinHas g (upper + lower) A C B X i j s → X i j s
        from has = (is_upper i j s in_upper in_columns).1 (elim has [
          | inl first ↦ inl (inl first)
          | inr (inl (k, below, within, made)) ↦ elim (cases_lt k upper) [
            | inl here ↦ inr (inl (k, below, here, made))
            | inr there ↦
                let d = k - upper in
                let place : k ≡ upper + d = omega (arith, there) in
                let Made : ℕ → Type 0 = λ x. Make g (A i x) (X x j) s in
                inl (inr (d, omega (arith, there, within), subst Made place made))
          ]
          | inr (inr before) ↦ inr (inr before)
        ])

    -- a row of the lower part
    lower_row :
        (i j s : ℕ) → i < lower → j < columns
        → X (upper + i) j s ↔ JoinHas g (upper + lower) A C B X (upper + i) j s
    lower_row i j s in_lower in_columns = (to, from)
      where
        to : X (upper + i) j s → JoinHas g (upper + lower) A C B X (upper + i) j s
        to has = elim ((is_lower i j s in_lower in_columns).0 has) [
          | inl first ↦ inl first
          | inr (inl (k, below, within, made)) ↦
              inr (inl (upper + k, omega (arith, below), omega (arith, within), made))
          | inr (inr before) ↦ inr (inr before)
        ]

        from : JoinHas g (upper + lower) A C B X (upper + i) j s → X (upper + i) j s
        from has = (is_lower i j s in_lower in_columns).1 (elim has [
          | inl first ↦ inl first
          | inr (inl (k, below, within, made)) ↦
              let d = k - upper in
              let place : k ≡ upper + d = omega (arith, below) in
              let Made : ℕ → Type 0 = λ x. Make g (A (upper + i) x) (X x j) s in
              inr (inl (d, omega (arith, below), omega (arith, below, within), subst Made place made))
          | inr (inr before) ↦ inr (inr before)
        ])

    -- A is cut before a row: where the rows of the lower part solve their join, and those of the
    -- upper part theirs, with what the corner of A makes of the lower ones added to C, all solve
    -- the whole
    pub by_rows : AreJoined g (upper + lower) columns A C B X
    by_rows i j s in_rows in_columns = elim (cases_lt i upper) [
      | inl here ↦ upper_row i j s here in_columns
      | inr there ↦
          let d = i - upper in
          let place : upper + d ≡ i = omega (arith, there) in
          let Row : ℕ → Type 0 = λ x. X x j s ↔ JoinHas g (upper + lower) A C B X x j s in
          subst Row place (lower_row d j s (omega (arith, there, in_rows)) in_columns)
    ]

  -- where C has no symbol, X has none
  pub of_nothing :
      (rows columns : ℕ) (A C B X : ℕ → ℕ → ℕ → Type 0)
      → HaveNothing rows columns C → HaveNothing rows columns X → AreJoined g rows columns A C B X
  of_nothing rows columns A C B X no_start no_symbol i j s in_rows in_columns = (
    (λ has. absurd (no_symbol i j s in_rows in_columns has)),
    (elim [
      | inl first ↦ absurd (no_start i j s in_rows in_columns first)
      | inr (inl (k, below, within, (l, m, has_l, has_m, makes))) ↦
          absurd (no_symbol k j m within in_columns has_m)
      | inr (inr (k, before, (l, m, has_l, has_m, makes))) ↦
          absurd (no_symbol i k l in_rows (omega (arith, before, in_columns)) has_l)
    ]),
  )
