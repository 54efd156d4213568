-- Serves the proofs alone. Which cells of the left matrix make something with a cell of the right
-- one. An entry with any other cell adds nothing to a product.
use Rattle.std.specs.Prelude.{◌≡◌, ℕ, ◌<◌, ◌↔◌, List, Bool, length, map, Contains}
use Rattle.spec_grammar.specs.Grammars.{Grammar}
use Rattle.number_graph.specs.Graphs.{IsSet}
use Rattle.binary_form.specs.BinaryForm.{HasProduct}
use Rattle.quad_mat.specs.declared.loading.Body.{Body}
use Rattle.quad_mat.specs.Rows.{cell_of}

-- the cell has just what one of the first cells has, so many of them
abbrev pub IsUnionOfFirst : List (List ℕ) → ℕ → List ℕ → Type 0
IsUnionOfFirst cells count all =
    (s : ℕ) → Contains all s ↔ ((n : ℕ) × (n < count) × Contains (cell_of cells n) s)

-- each of the first cells, so many of them, has a flag, which is set exactly where it is such a one
pub record AreFlagsOfFirst (IsSuch : List ℕ → Type 0) (cells : List (List ℕ)) (count : ℕ)
    (flags : List Bool) : Type 0 where
  pub same : length flags ≡ count
  pub each : (n : ℕ) → n < count → IsSet flags n ↔ IsSuch (cell_of cells n)

-- the cell makes something with one of the others
abbrev pub MeetsSome : Grammar → List (List ℕ) → List ℕ → Type 0
MeetsSome g others cell = (n : ℕ) × (n < length others) × HasProduct g cell (cell_of others n)

-- each cell of the left matrix has a flag, which is set exactly where it makes something with a cell
-- of the right one
abbrev pub AreMeeting : {C : Type 0} → (C → List ℕ) → Grammar → Body C → Body C → List Bool → Type 0
AreMeeting symbols g left right flags =
    AreFlagsOfFirst (MeetsSome g (map symbols right.cells.items)) (map symbols left.cells.items)
    (length (map symbols left.cells.items)) flags
