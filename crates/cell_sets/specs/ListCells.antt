-- Serves the proofs alone. The symbols of a vector that may not be made yet.
use Rattle.std.specs.Prelude.{ℕ, List, [], Option, None, Some, Vec}
use Rattle.std.specs.declared.alloc.Global.{Global}

-- the items of a vector, or none where there is no vector
abbrev pub vector_items : Option (Vec ℕ Global) → List ℕ
vector_items None = []
vector_items (Some vector) = vector.items
