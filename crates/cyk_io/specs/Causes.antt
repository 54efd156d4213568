-- When a count of faults has risen, and that a fault is answered only then.
use Rattle.std.specs.Prelude.{ℕ, ◌+◌, ◌-◌, ◌^◌, ◌≤◌, min}

-- the count rose, or it stands at 2^64 - 1, its last value
abbrev pub HasRisen : ℕ → ℕ → Type 0
HasRisen before after = min (before + 1) (2 ^ 64 - 1) ≤ after

-- the count never falls, and the call fails only where the count has risen
pub record HasCause (before after : ℕ) (Fails : Type 0) : Type 0 where
  pub later : before ≤ after
  pub cause : Fails → HasRisen before after
