-- Joins of matrices: an entry is a row's symbols in a column.
use Rattle.std.proofs.Common.{◌≡◌, ℕ, ◌↔◌, List, Contains, refl, sym, subst, inl, inr, arith}
use Rattle.spec_grammar.specs.Grammars.{Grammar}
use Rattle.cell_sets.specs.Grids.{Grid, entry, grid_of}
use Rattle.cell_sets.proofs.GridLemmas.{entry-grid_of}
use Rattle.quad_mat.specs.Matrices.{HasSize}
use Rattle.joins.specs.Joins.{Solves}
use Rattle.joins.specs.JoinedRows.{AreJoined, HaveNothing}
use Rattle.joins.specs.Laws.{OneSolution}
use Rattle.joins.proofs.JoinLemmas.{solution_within, same_rows, of_nothing}

-- a grid of a function has as many rows and columns as it is given
size_of_grid :
    (rows columns : ℕ) (f : ℕ → ℕ → List ℕ) → HasSize rows columns (grid_of rows columns f)
unfolding grid_of
size_of_grid rows columns f = (refl, refl)

-- equal lists have the same members
pub same_members : (xs ys : List ℕ) → xs ≡ ys → (s : ℕ) → Contains xs s ↔ Contains ys s
same_members xs ys same s =
    let Has : List ℕ → Type 0 = λ zs. Contains zs s in
    ((λ has. subst Has same has), (λ has. subst Has (sym same) has))

-- the symbols of each entry
abbrev pub entries : Grid → ℕ → ℕ → ℕ → Type 0
entries x i j s = Contains (entry x i j) s

-- the symbols of each span
abbrev pub spans : (ℕ → ℕ → List ℕ) → ℕ → ℕ → ℕ → Type 0
spans a i j s = Contains (a i j) s

module _ (g : Grammar) (a b : ℕ → ℕ → List ℕ) (c x : Grid) where
  -- the rows of a matrix that solves a join solve it
  pub rows_joined :
      Solves g a c b x → AreJoined g c.rows c.columns (spans a) (entries c) (spans b) (entries x)
  rows_joined solves i j s in_rows in_columns =
      let is = solves.each i j s in_rows in_columns in (
        (λ has. elim (is.0 has) [
          | inl first ↦ inl first
          | inr (inl (k, below, within, made)) ↦ inr (inl (k, below, omega (arith, within, solves.size.0), made))
          | inr (inr before) ↦ inr (inr before)
        ]),
        (λ asked. is.1 (elim asked [
          | inl first ↦ inl first
          | inr (inl (k, below, within, made)) ↦ inr (inl (k, below, omega (arith, within, solves.size.0), made))
          | inr (inr before) ↦ inr (inr before)
        ])),
      )

  -- and a matrix whose rows solve it does
  pub joined_rows :
      HasSize c.rows c.columns x
      → AreJoined g c.rows c.columns (spans a) (entries c) (spans b) (entries x) → Solves g a c b x
  joined_rows size joined = record {
    size = size;
    each = λ i j s in_rows in_columns. (
      (λ has. elim ((joined i j s in_rows in_columns).0 has) [
        | inl first ↦ inl first
        | inr (inl (k, below, within, made)) ↦ inr (inl (k, below, omega (arith, within, size.0), made))
        | inr (inr before) ↦ inr (inr before)
      ]),
      (λ asked. (joined i j s in_rows in_columns).1 (elim asked [
        | inl first ↦ inl first
        | inr (inl (k, below, within, made)) ↦ inr (inl (k, below, omega (arith, within, size.0), made))
        | inr (inr before) ↦ inr (inr before)
      ])),
    );
  }

  -- where C has no symbol, a matrix without symbols solves the join
  pub nothing_solves :
      HasSize c.rows c.columns x → HaveNothing c.rows c.columns (entries c)
      → HaveNothing c.rows c.columns (entries x) → Solves g a c b x
  nothing_solves size no_start no_symbol =
      joined_rows size
      (of_nothing g c.rows c.columns (spans a) (entries c) (spans b) (entries x) no_start no_symbol)

module _ (g : Grammar) (a b : ℕ → ℕ → List ℕ) (c : Grid) where
  -- the matrix of entries that solve a join solves it
  pub joined_matrix :
      (f : ℕ → ℕ → List ℕ) → AreJoined g c.rows c.columns (spans a) (entries c) (spans b) (spans f)
      → Solves g a c b (grid_of c.rows c.columns f)
  joined_matrix f joined =
      let x = grid_of c.rows c.columns f in
      joined_rows g a b c x (size_of_grid c.rows c.columns f)
      (same_rows g c.rows c.columns (spans a) (entries c) (spans b) (spans f) (entries x)
      (λ i j s in_rows in_columns. same_members (f i j) (entry x i j)
      (sym (entry-grid_of c.rows c.columns f i j in_rows in_columns)) s) joined)

  -- a matrix of one row and one column solves its own join
  pub one_entry_solves : c.rows ≡ 1 → c.columns ≡ 1 → Solves g a c b c
  one_entry_solves one_row one_column = record {
    size = (refl, refl);
    each = λ i j s in_rows in_columns. (
      (λ has. inl has),
      (elim [
        | inl first ↦ first
        | inr (inl (k, below, within, made)) ↦ absurd (omega (arith, below, within, one_row))
        | inr (inr (k, before, made)) ↦ absurd (omega (arith, before, in_columns, one_column))
      ]),
    );
  }

-- two matrices that solve one join have the same symbols in each entry
pub one_solution : OneSolution
one_solution g a b c x y is_x is_y i j in_rows in_columns s = (
  solution_within g c.rows c.columns (spans a) (entries c) (spans b) (entries x) (entries y)
      (rows_joined g a b c x is_x) (rows_joined g a b c y is_y) i j s in_rows in_columns,
  solution_within g c.rows c.columns (spans a) (entries c) (spans b) (entries y) (entries x)
      (rows_joined g a b c y is_y) (rows_joined g a b c x is_x) i j s in_rows in_columns,
)
