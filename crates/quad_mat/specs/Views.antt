-- Serves the proofs alone. How what a matrix keeps is seen.
use Rattle.std.specs.Prelude.{◌≡◌, ℕ, List, [], Option, Some, None, map, length, slice_index, ⊤}
use Rattle.std.specs.declared.alloc.Global.{Global}
use Rattle.std.specs.declared.sync.Arc.{Arc}
use Rattle.quad_mat.specs.declared.loading.Body.{Body}
use Rattle.quad_mat.specs.Rows.{found}
use Rattle.quad_mat.specs.Rows.{row_of}
use Rattle.quad_mat.specs.Loading.{IsBody}

-- the symbols in row i and column j
abbrev pub found_in : {C : Type 0} → (C → List ℕ) → Option (Arc (Body C) Global) → ℕ → ℕ → List ℕ
found_in symbols None i j = []
found_in symbols (Some shared) i j =
    found (map symbols shared.value.cells.items)
    (row_of shared.value.rows (slice_index shared.value.numbers i)) j

-- what is kept is that of a matrix of so many rows and columns
abbrev pub IsKept : {C : Type 0} → (C → List ℕ) → ℕ → ℕ → Option (Arc (Body C) Global) → Type 0
IsKept symbols rows columns None = ⊤
IsKept symbols rows columns (Some shared) =
    (length shared.value.numbers ≡ rows)
    × IsBody columns (map symbols shared.value.cells.items) shared.value.rows shared.value.numbers
