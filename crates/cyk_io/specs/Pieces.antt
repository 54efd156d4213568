-- A source and a sink over memory that move bytes in pieces, and fail where they are told to.
use Rattle.std.specs.Prelude.{◌≡◌, ◌↔◌, ℕ, ◌+◌, ◌-◌, ◌^◌, List, min}
use Rattle.std.specs.List.{Contains}

-- the bytes left or written, the most that a call moves, the calls that fail by their numbers from
-- 1, and how many calls there were and how many of them failed
pub record InPieces : Type 0 where
  pub bytes : List ℕ
  pub piece : ℕ
  pub fail_at : List ℕ
  pub calls : ℕ
  pub faults : ℕ

-- these bytes before the first call
abbrev pub in_pieces : List ℕ → ℕ → List ℕ → InPieces
in_pieces bytes piece fail_at =
    record { bytes = bytes; piece = piece; fail_at = fail_at; calls = 0; faults = 0 }

-- a call was counted, up to 2^64 - 1, and failed just where its number is listed
pub record FailsWhereListed (old new : InPieces) (Fails : Type 0) : Type 0 where
  pub calls : new.calls ≡ min (old.calls + 1) (2 ^ 64 - 1)
  pub fails : Fails ↔ Contains old.fail_at new.calls
  pub piece : new.piece ≡ old.piece
  pub fail_at : new.fail_at ≡ old.fail_at
