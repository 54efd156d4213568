-- Serves the proofs alone: what saying a line leaves of the bytes that are gathered, and of those
-- that are written.
use Rattle.std.specs.Prelude.{◌≡◌, ℕ, ◌⊎◌, List, [], ◌++◌, Option, Result, Ok, Err, String}
use Rattle.std.specs.Prelude.{string_bytes}
use Rattle.std.specs.declared.alloc.Global.{Global}
use Rattle.std.specs.declared.alloc.AllocError.{AllocError}
use Rattle.cyk_io.specs.Streams.{Grows, GrowsByPrefix}
pub use Rattle.cyk_io.specs.Gathering.{Passes}
use Rattle.chart_service.specs.declared.status.Status.{Status}
use Rattle.chart_service.specs.Statuses.{EndsAtFault}

-- the bytes of what is to be said; there are none where there was no memory for it
abbrev pub bytes_in : {X : Type 0} → (X → List ℕ) → Result X AllocError → List ℕ
bytes_in bytes_of (Ok x) = bytes_of x
bytes_in bytes_of (Err error) = []

-- there is something to say, and its bytes were said
abbrev pub SaysBy : {X : Type 0} → (X → List ℕ) → Result X AllocError → Option (List ℕ)
    → Option (List ℕ) → List ℕ → List ℕ → Type 0
SaysBy {X} bytes_of reply old new gathered left =
    (x : X) × (reply ≡ Ok x) × Passes old new gathered (bytes_of x) left

-- the bytes of a line
abbrev pub line_bytes : String Global → List ℕ
line_bytes text = string_bytes text

-- the bytes of the line; there are none where there was no memory for it
abbrev pub line_in : Result (String Global) AllocError → List ℕ
line_in line = bytes_in line_bytes line

-- there is a line, and it was said
abbrev pub Says : Result (String Global) AllocError → Option (List ℕ) → Option (List ℕ) → List ℕ
    → List ℕ → Type 0
Says line old new gathered left = SaysBy line_bytes line old new gathered left

-- there is a line, and it is written with all that was gathered
abbrev pub WritesOut : Result (String Global) AllocError → Option (List ℕ) → Option (List ℕ)
    → List ℕ → Type 0
WritesOut line old new gathered =
    (text : String Global) × (line ≡ Ok text) × Grows old new (gathered ++ string_bytes text)

-- the last line is written with all that was gathered and the status is the one wanted, or a prefix
-- of them is and it is a fault's
abbrev pub Finishes : Result (String Global) AllocError → Option (List ℕ) → Option (List ℕ)
    → List ℕ → Status → Status → Type 0
Finishes line old new gathered wanted status =
    (WritesOut line old new gathered × (status ≡ wanted))
    ⊎ (GrowsByPrefix old new (gathered ++ line_in line) × EndsAtFault status)
