-- What a caller sees of bytes that are gathered before they are written.
use Rattle.std.specs.Prelude.{◌≡◌, ℕ, List, ◌++◌, Option}
use Rattle.cyk_io.specs.Streams.{Grows}

-- of the gathered bytes and those that come behind them some are written first, and the rest is
-- left
abbrev pub Passes : Option (List ℕ) → Option (List ℕ) → List ℕ → List ℕ → List ℕ → Type 0
Passes old new gathered bytes left =
    (out : List ℕ) × Grows old new out × (gathered ++ bytes ≡ out ++ left)
