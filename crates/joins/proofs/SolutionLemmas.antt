-- A join has a solution: each entry is made of those below and before it, by the number of rows below
-- and of columns before.
use Rattle.std.proofs.Common.{◌≡◌, ℕ, zero, suc, ◌+◌, ◌-◌, ◌<◌, ◌↔◌, List, [], ◌++◌, subst, inl, inr, arith, Contains}
use Rattle.std.proofs.lemmas.Bool.{cases_lt}
use Rattle.std.proofs.lemmas.List.Elements.{Contains-append_left, Contains-append_right, Contains-append_cases}
use Rattle.spec_grammar.specs.Grammars.{Grammar}
use Rattle.cell_sets.specs.Grids.{Grid, entry, grid_of}
use Rattle.binary_form.specs.BinaryForm.{IsProductNumber, IsProductOf}
use Rattle.joins.specs.JoinedRows.{JoinHas, AreJoined}
use Rattle.joins.specs.Laws.{SomeSolution}
use Rattle.joins.proofs.JoinLemmas.{make_more}
use Rattle.joins.proofs.MatrixLemmas.{entries, spans, joined_matrix}

-- the first lists of a family, one behind the other
gathered : ℕ → (ℕ → List ℕ) → List ℕ
gathered zero f = []
gathered (suc n) f = gathered n f ++ f n

-- what they have, one of them has
gathered_from :
    (n : ℕ) (f : ℕ → List ℕ) (s : ℕ)
    → Contains (gathered n f) s → (k : ℕ) × (k < n) × Contains (f k) s
unfolding gathered
gathered_from zero f s has = absurd (omega (arith, has.1))
gathered_from (suc n) f s has = elim (Contains-append_cases (gathered n f) (f n) s has) [
  | inl earlier ↦ let x = gathered_from n f s earlier in (x.0, omega (arith, x.1), x.2)
  | inr last ↦ (n, omega arith, last)
]

-- what one of them has, they have
one_gathered :
    (n : ℕ) (f : ℕ → List ℕ) (s k : ℕ) → k < n → Contains (f k) s → Contains (gathered n f) s
unfolding gathered
one_gathered zero f s k below has = absurd (omega (arith, below))
one_gathered (suc n) f s k below has = elim (cases_lt k n) [
  | inl earlier ↦ Contains-append_left (gathered n f) (f n) s (one_gathered n f s k earlier has)
  | inr later ↦
      let last : k ≡ n = omega (arith, below, later) in
      let Has : ℕ → Type 0 = λ x. Contains (f x) s in
      Contains-append_right (gathered n f) (f n) s (subst Has last has)
]

module _ (g : Grammar) (product : (left right : List ℕ) → (cell : List ℕ) × IsProductOf g left right cell)
    (a b : ℕ → ℕ → List ℕ) (c : Grid) where
  -- what the rows below make, where these lists stand in the column
  abbrev below_of : ℕ → (ℕ → List ℕ) → List ℕ
  below_of i column = gathered (c.rows - (i + 1)) (λ d. (product (a i (i + 1 + d)) (column (i + 1 + d))).0)

  -- what the columns before make, where these lists stand in the row
  abbrev before_of : ℕ → (ℕ → List ℕ) → List ℕ
  before_of j row = gathered j (λ k. (product (row k) (b k j)).0)

  -- the entry in row i and column j, in so many turns
  solved : (turns i j : ℕ) → List ℕ
  solved zero i j = []
  solved (suc turns) i j =
      entry c i j ++ (below_of i (λ k. solved turns k j) ++ before_of j (λ k. solved turns i k))

  -- the symbols of the entries, in so many turns
  abbrev InTurns : ℕ → ℕ → ℕ → ℕ → Type 0
  InTurns turns i j s = Contains (solved turns i j) s

  -- an entry of one turn more is what the join asks for
  solved_has :
      (turns i j s : ℕ)
      → InTurns (suc turns) i j s ↔ JoinHas g c.rows (spans a) (entries c) (spans b) (InTurns turns) i j s
  unfolding solved
  solved_has turns i j s = (to, from)
    where
      below : List ℕ
      below = below_of i (λ k. solved turns k j)

      before : List ℕ
      before = before_of j (λ k. solved turns i k)

      to : InTurns (suc turns) i j s → JoinHas g c.rows (spans a) (entries c) (spans b) (InTurns turns) i j s
      to has = elim (Contains-append_cases (entry c i j) (below ++ before) s has) [
        | inl first ↦ inl first
        | inr rest ↦ elim (Contains-append_cases below before s rest) [
          | inl under ↦
              let x = gathered_from (c.rows - (i + 1)) (λ d. (product (a i (i + 1 + d)) (solved turns (i + 1 + d) j)).0) s under in
              let k = i + 1 + x.0 in
              inr (inl (k, omega arith, omega (arith, x.1), ((product (a i k) (solved turns k j)).1 s).0 x.2))
          | inr earlier ↦
              let x = gathered_from j (λ k. (product (solved turns i k) (b k j)).0) s earlier in
              inr (inr (x.0, x.1, ((product (solved turns i x.0) (b x.0 j)).1 s).0 x.2))
        ]
      ]

      from : JoinHas g c.rows (spans a) (entries c) (spans b) (InTurns turns) i j s → InTurns (suc turns) i j s
      from (inl first) = Contains-append_left (entry c i j) (below ++ before) s first
      from (inr (inl (k, after, within, made))) =
          let d = k - (i + 1) in
          let place : k ≡ i + 1 + d = omega (arith, after) in
          let Made : ℕ → Type 0 = λ x. IsProductNumber g (a i x) (solved turns x j) s in
          let there = ((product (a i (i + 1 + d)) (solved turns (i + 1 + d) j)).1 s).1 (subst Made place made) in
          Contains-append_right (entry c i j) (below ++ before) s (Contains-append_left below before s
          (one_gathered (c.rows - (i + 1)) (λ x. (product (a i (i + 1 + x)) (solved turns (i + 1 + x) j)).0) s d
          (omega (arith, after, within)) there))
      from (inr (inr (k, earlier, made))) =
          Contains-append_right (entry c i j) (below ++ before) s (Contains-append_right below before s
          (one_gathered j (λ x. (product (solved turns i x) (b x j)).0) s k earlier
          (((product (solved turns i k) (b k j)).1 s).1 made)))

  -- no turns have nothing
  none_at_first : (i j s : ℕ) → InTurns zero i j s → ⊥
  unfolding solved
  none_at_first i j s has = omega (arith, has.1)

  -- enough turns have what any number of turns has
  solved_more :
      (turns enough i j s : ℕ)
      → i < c.rows → (c.rows - i) + j < enough → InTurns turns i j s → InTurns enough i j s
  solved_more zero enough i j s within few has = absurd (none_at_first i j s has)
  solved_more (suc turns) zero i j s within few has = absurd (omega (arith, few))
  solved_more (suc turns) (suc enough) i j s within few has =
      (solved_has enough i j s).1 (elim ((solved_has turns i j s).0 has) [
        | inl first ↦ inl first
        | inr (inl (k, after, inside, made)) ↦
            inr (inl (
              k,
              after,
              inside,
              make_more g (spans a i k) (InTurns turns k j) (spans a i k) (InTurns enough k j) s
                  (λ l has_l. has_l) (λ m. solved_more turns enough k j m inside (omega (arith, after, inside, few))) made,
            ))
        | inr (inr (k, earlier, made)) ↦
            inr (inr (
              k,
              earlier,
              make_more g (InTurns turns i k) (spans b k j) (InTurns enough i k) (spans b k j) s
                  (λ l. solved_more turns enough i k l within (omega (arith, earlier, few))) (λ m has_m. has_m) made,
            ))
      ])

  -- each entry in as many turns as it takes
  abbrev entry_solved : ℕ → ℕ → List ℕ
  entry_solved i j = solved (suc ((c.rows - i) + j)) i j

  -- these solve the join
  all_solved :
      AreJoined g c.rows c.columns (spans a) (entries c) (spans b) (λ i j s. Contains (entry_solved i j) s)
  all_solved i j s in_rows in_columns = (
    (λ has. elim ((solved_has enough i j s).0 has) [
      | inl first ↦ inl first
      | inr (inl (k, after, inside, made)) ↦
          inr (inl (
            k,
            after,
            inside,
            make_more g (spans a i k) (InTurns enough k j) (spans a i k)
                (InTurns (suc ((c.rows - k) + j)) k j) s (λ l has_l. has_l)
                (λ m. solved_more enough (suc ((c.rows - k) + j)) k j m inside (omega arith)) made,
          ))
      | inr (inr (k, earlier, made)) ↦
          inr (inr (
            k,
            earlier,
            make_more g (InTurns enough i k) (spans b k j)
                (InTurns (suc ((c.rows - i) + k)) i k) (spans b k j) s
                (λ l. solved_more enough (suc ((c.rows - i) + k)) i k l in_rows (omega arith)) (λ m has_m. has_m) made,
          ))
    ]),
    (λ asked. (solved_has enough i j s).1 (elim asked [
      | inl first ↦ inl first
      | inr (inl (k, after, inside, made)) ↦
          inr (inl (
            k,
            after,
            inside,
            make_more g (spans a i k) (InTurns (suc ((c.rows - k) + j)) k j) (spans a i k)
                (InTurns enough k j) s (λ l has_l. has_l)
                (λ m. solved_more (suc ((c.rows - k) + j)) enough k j m inside (omega (arith, after, inside))) made,
          ))
      | inr (inr (k, earlier, made)) ↦
          inr (inr (
            k,
            earlier,
            make_more g (InTurns (suc ((c.rows - i) + k)) i k) (spans b k j)
                (InTurns enough i k) (spans b k j) s
                (λ l. solved_more (suc ((c.rows - i) + k)) enough i k l in_rows (omega (arith, earlier))) (λ m has_m. has_m) made,
          ))
    ])),
  )
    where
      enough : ℕ
      enough = (c.rows - i) + j

-- where each two cells have a product, some matrix solves the join
pub some_solution : SomeSolution
some_solution g product a b c =
    let x = grid_of c.rows c.columns (entry_solved g product a b c) in
    (x, joined_matrix g a b c (entry_solved g product a b c) (all_solved g product a b c))
