-- Serves the proofs alone. Places in a list in rising order.
use Rattle.std.specs.Prelude.{◌≡◌, ℕ, ◌<◌, ◌≤◌, List, length, slice_index, Result, MatchResult}

-- the symbol is missing at the place: what stands before it is below the symbol, and the rest above
pub record IsGapAt (xs : List ℕ) (symbol at : ℕ) : Type 0 where
  pub within : at ≤ length xs
  pub below : (k : ℕ) → k < at → slice_index xs k < symbol
  pub above : (k : ℕ) → at ≤ k → k < length xs → symbol < slice_index xs k

-- the symbol stands at the place, or it is missing there
abbrev pub IsPlaceOf : List ℕ → ℕ → Result ℕ ℕ → Type 0
IsPlaceOf xs symbol place = MatchResult place
    (λ at. (at < length xs) × (slice_index xs at ≡ symbol))
    (λ at. IsGapAt xs symbol at)
