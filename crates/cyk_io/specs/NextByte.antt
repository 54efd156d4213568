-- Serves the proofs alone: what a read of one byte finds.
use Rattle.std.specs.Prelude.{ℕ, List, [], ◌∷◌, Option, MatchOption}
use Rattle.cyk_io.specs.Streams.{Takes, Stays, IsAtEnd}

-- the byte is taken, or nothing is left to take
abbrev pub TakesNext : Option (List ℕ) → Option (List ℕ) → Option ℕ → Type 0
TakesNext old new next =
    MatchOption next (Stays old new × IsAtEnd new) (λ byte. Takes old new (byte ∷ []))
