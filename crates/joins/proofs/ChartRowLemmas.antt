-- A join along the parts of its left chart: the rows of the right part, then those of the left one.
use Rattle.std.proofs.Common.{◌≡◌, ℕ, ◌+◌, ◌<◌, ◌↔◌, Option, ◌∷◌, sym, subst, inl, inr, arith}
use Rattle.std.proofs.lemmas.List.{length-append}
use Rattle.spec_grammar.specs.Grammars.{Grammar}
use Rattle.cell_sets.specs.Grids.{Grid, entry}
use Rattle.joins.specs.ClosedCharts.{ClosedChart, node, kinds_of, boundaries, entry_of}
use Rattle.joins.specs.JoinedRows.{AreJoined, WithCorner}
use Rattle.joins.proofs.JoinLemmas.{make_more, joined_same, by_rows}
use Rattle.joins.proofs.MatrixLemmas.{entries, spans, same_members}
use Rattle.joins.proofs.ClosedChartLemmas.{entry_left, entry_corner, entry_right}

module _ (g : Grammar) (left : ClosedChart) (kind : Option ℕ) (right : ClosedChart) (corner : Grid) where
  -- a node has the boundaries of both parts
  pub node_boundaries :
      boundaries (node left kind right corner) ≡ boundaries left + boundaries right
  node_boundaries =
      let sum = length-append (kinds_of left) (kind ∷ kinds_of right) in
      omega (arith, sum)

  module _ (columns : ℕ) (C B X : ℕ → ℕ → ℕ → Type 0) where
    -- the spans of the node
    abbrev Node : ℕ → ℕ → ℕ → Type 0
    Node = spans (entry_of (node left kind right corner))

    -- the upper rows, with what the corner adds
    abbrev Upper : ℕ → ℕ → ℕ → Type 0
    Upper = WithCorner g C (λ i k. Node i (boundaries left + k)) X (boundaries left) (boundaries right)

    -- what the corner adds, the node's spans over its token add
    same_start :
        (i j s : ℕ) → i < boundaries left
        → WithCorner g C (entries corner) X (boundaries left) (boundaries right) i j s ↔ Upper i j s
    same_start i j s within = (
      (elim [
        | inl first ↦ inl first
        | inr (k, below, made) ↦
            inr (
              k,
              below,
              make_more g (entries corner i k) (X (boundaries left + k) j)
                  (Node i (boundaries left + k)) (X (boundaries left + k) j) s (λ l. (same k l).0) (λ m has. has) made,
            )
      ]),
      (elim [
        | inl first ↦ inl first
        | inr (k, below, made) ↦
            inr (
              k,
              below,
              make_more g (Node i (boundaries left + k)) (X (boundaries left + k) j)
                  (entries corner i k) (X (boundaries left + k) j) s (λ l. (same k l).1) (λ m has. has) made,
            )
      ]),
    )
      where
        same : (k l : ℕ) → entries corner i k l ↔ Node i (boundaries left + k) l
        same k l =
            same_members (entry corner i k) (entry_of (node left kind right corner) i (boundaries left + k))
            (sym (entry_corner left kind right corner i k within)) l

    -- where the rows of the right part solve their join, and those of the left part theirs, with what
    -- the corner makes of the rows of the right part added to C, all rows solve that of the node
    pub node_rows :
        AreJoined g (boundaries right) columns (spans (entry_of right)) (λ i. C (boundaries left + i)) B (λ i. X (boundaries left + i))
        → AreJoined g (boundaries left) columns (spans (entry_of left))
        (WithCorner g C (entries corner) X (boundaries left) (boundaries right)) B X
        → AreJoined g (boundaries (node left kind right corner)) columns Node C B X
    node_rows lower upper =
        let Rows : ℕ → Type 0 = λ rows. AreJoined g rows columns Node C B X in
        subst Rows (sym node_boundaries) (by_rows g columns (boundaries left) (boundaries right) Node C B X
        (joined_same g (boundaries right) columns (spans (entry_of right)) (λ i. C (boundaries left + i)) B
        (λ i. X (boundaries left + i)) (λ i k. Node (boundaries left + i) (boundaries left + k))
        (λ i. C (boundaries left + i)) B
        (λ i k l below within. same_members (entry_of right i k)
        (entry_of (node left kind right corner) (boundaries left + i) (boundaries left + k))
        (sym (entry_right left kind right corner i k)) l)
        (λ i j s in_rows in_columns. ((λ has. has), (λ has. has)))
        (λ k j m before within. ((λ has. has), (λ has. has))) lower)
        (joined_same g (boundaries left) columns (spans (entry_of left))
        (WithCorner g C (entries corner) X (boundaries left) (boundaries right)) B X Node Upper B
        (λ i k l below within. same_members (entry_of left i k) (entry_of (node left kind right corner) i k)
        (sym (entry_left left kind right corner i k below (omega (arith, within)))) l)
        (λ i j s in_rows in_columns. same_start i j s in_rows)
        (λ k j m before within. ((λ has. has), (λ has. has))) upper))
