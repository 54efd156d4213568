-- Where the entries of a node stand: in its left part, in its right part, or in its corner.
use Rattle.std.proofs.Common.{◌≡◌, ℕ, ◌+◌, ◌-◌, ◌<◌, ◌≤◌, Option, length, nat_le, true, false, refl, ◌∙◌, ap, arith}
use Rattle.std.proofs.lemmas.Bool.{lt-leb, le-leb}
use Rattle.cell_sets.specs.Grids.{Grid, entry}
use Rattle.cell_sets.proofs.GridLemmas.{entry-grid_of}
use Rattle.joins.specs.ClosedCharts.{ClosedChart, node, kinds_of, boundaries, entry_of, seen}

-- what is seen of a chart's entries are its entries
pub seen_entry :
    (chart : ClosedChart) (i j : ℕ)
    → i < j → j ≤ length (kinds_of chart) → entry (seen chart).entries i j ≡ entry_of chart i j
seen_entry chart i j order within =
    entry-grid_of (length (kinds_of chart)) (boundaries chart) (entry_of chart) i j
    (omega (arith, order, within)) (omega (arith, within))

module _ (left : ClosedChart) (kind : Option ℕ) (right : ClosedChart) (corner : Grid) where
  -- a span that begins behind the token
  pub at_right :
      (i j : ℕ) → boundaries left ≤ i
      → entry_of (node left kind right corner) i j ≡ entry_of right (i - boundaries left) (j - boundaries left)
  at_right i j later =
      let begins : nat_le (boundaries left) i ≡ true = le-leb (boundaries left) i later in
      rw begins refl

  -- a span over the token
  pub at_corner :
      (i j : ℕ) → i < boundaries left → boundaries left ≤ j
      → entry_of (node left kind right corner) i j ≡ entry corner i (j - boundaries left)
  at_corner i j before later =
      let begins : nat_le (boundaries left) i ≡ false = lt-leb (boundaries left) i before in
      let ends : nat_le (boundaries left) j ≡ true = le-leb (boundaries left) j later in
      rw (begins, ends) refl

  -- a span within the left part
  pub entry_left :
      (i j : ℕ) → i < j → j ≤ length (kinds_of left)
      → entry_of (node left kind right corner) i j ≡ entry_of left i j
  entry_left i j order within =
      let begins : nat_le (boundaries left) i ≡ false = lt-leb (boundaries left) i (omega (arith, order, within)) in
      let ends : nat_le (boundaries left) j ≡ false = lt-leb (boundaries left) j (omega (arith, within)) in
      rw (begins, ends) refl

  -- a span over the token, by its boundary behind it
  pub entry_corner :
      (i j : ℕ) → i < boundaries left
      → entry_of (node left kind right corner) i (boundaries left + j) ≡ entry corner i j
  entry_corner i j within =
      let place : boundaries left + j - boundaries left ≡ j = omega arith in
      at_corner i (boundaries left + j) within (omega arith) ∙ ap (entry corner i) place

  -- a span behind it, by its boundaries there
  pub entry_right :
      (i j : ℕ)
      → entry_of (node left kind right corner) (boundaries left + i) (boundaries left + j) ≡ entry_of right i j
  entry_right i j =
      let first : boundaries left + i - boundaries left ≡ i = omega arith in
      let last : boundaries left + j - boundaries left ≡ j = omega arith in
      at_right (boundaries left + i) (boundaries left + j) (omega arith)
      ∙ ap (λ x. entry_of right x (boundaries left + j - boundaries left)) first ∙ ap (entry_of right i) last
