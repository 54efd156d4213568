-- What else is true of each input: it has a session.
use Rattle.std.specs.Prelude.{ℕ, List}
use Rattle.spec_session.specs.Sessions.{serve_mode, IsSession}

-- no input is without a session of `serve` (by two denials, since no definition decides what a
-- category derives)
abbrev pub SomeSession : Type 0
SomeSession =
    (input : List ℕ) →
    ((out : List ℕ) (status : ℕ) → IsSession serve_mode input out status → ⊥) → ⊥
