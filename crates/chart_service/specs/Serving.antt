-- What `serve` promises: the session that its input defines, or a prefix of it and a fault's
-- status.
use Rattle.std.specs.Prelude.{◌≡◌, ℕ, ◌<◌, ◌≤◌, ◌^◌, ◌⊎◌, List, ◌++◌, Option, Some}
use Rattle.spec_session.specs.Sessions.{serve_mode, IsSession}
use Rattle.chart_service.specs.declared.options.Options.{Options}

-- the options are allowed, each within its limits
pub record AreAllowed (options : Options) : Type 0 where
  pub workers : (1 ≤ options.workers) × (options.workers ≤ 16)
  pub readers : (1 ≤ options.readers) × (options.readers ≤ 16)
  pub rounds : (1 ≤ options.rounds) × (options.rounds ≤ 1000)
  pub grain : (8 ≤ options.grain) × (options.grain ≤ 1024)
  pub seed : options.seed < 2 ^ 32
  pub tokens : (16 ≤ options.tokens) × (options.tokens ≤ 16384)

-- the status of a fault: 4 a read's, 5 a write's, 6 want of memory
abbrev pub IsFaultStatus : ℕ → Type 0
IsFaultStatus status = (status ≡ 4) ⊎ (status ≡ 5) ⊎ (status ≡ 6)

-- the status of a session that was written whole, or of a fault
abbrev pub IsStatus : ℕ → Type 0
IsStatus status = (status ≡ 0) ⊎ (status ≡ 2) ⊎ (status ≡ 3) ⊎ IsFaultStatus status

-- the bytes are a prefix of what the input's session writes
abbrev pub IsPrefixOfSession : List ℕ → List ℕ → Type 0
IsPrefixOfSession input written =
    (out : List ℕ) (status : ℕ) → IsSession serve_mode input out status
    → (rest : List ℕ) × (out ≡ written ++ rest)

-- where the source tells its bytes and the sink those written: the new bytes and the status are the
-- session of the source's bytes, or the status is a fault's and the new bytes are a prefix of the
-- session's
abbrev pub WritesSession : Option (List ℕ) → Option (List ℕ) → Option (List ℕ) → ℕ → Type 0
WritesSession left old new status =
    (input before : List ℕ) → left ≡ Some input → old ≡ Some before
    → (out : List ℕ) × (new ≡ Some (before ++ out))
    × (IsSession serve_mode input out status ⊎ (IsFaultStatus status × IsPrefixOfSession input out))
