-- The laws that join expressions over bytes to token expressions and to comments.
use Rattle.std.specs.Prelude.{◌≡◌, ◌≢◌, ℕ, ◌<◌, ◌↔◌, List, [], ◌++◌, length}
use Rattle.std.specs.Str.{IsUtf8}
use Rattle.spec_lexing.specs.Classes.{IsSound}
use Rattle.spec_lexing.specs.Expressions.{Expression}
use Rattle.spec_lexing.specs.Kinds.{LexKind, EndsFirst, MatchesKind}
use Rattle.spec_lexing.specs.Matching.{Matches}
use Rattle.spec_automata.specs.ByteExpressions.{MatchesBytes}
use Rattle.spec_automata.specs.Encoding.{bytes_of, bytes_of_kind, IsSoundKind}
use Rattle.spec_automata.specs.Positions.{IsBorder, IsInside}
use Rattle.spec_automata.specs.States.{AreBytes}

-- at the front of UTF-8 text the bytes of a token expression match just what it matches
abbrev pub BytesMatchTheSame : Type 0
BytesMatchTheSame =
    (expression : Expression) → IsSound expression →
    (bytes rest : List ℕ) → IsUtf8 (bytes ++ rest) →
    MatchesBytes (bytes_of expression) bytes ↔ Matches expression bytes

-- at the front of UTF-8 text the bytes of a kind match just what it matches
abbrev pub KindsMatchTheSame : Type 0
KindsMatchTheSame =
    (kind : LexKind) → IsSoundKind kind →
    (bytes rest : List ℕ) → AreBytes bytes → IsUtf8 (bytes ++ rest) →
    MatchesBytes (bytes_of_kind kind) bytes ↔ MatchesKind kind bytes

-- the closing text stands nowhere in the bytes
abbrev pub IsNowhereIn : List ℕ → List ℕ → Type 0
IsNowhereIn closing bytes = (before behind : List ℕ) → bytes ≡ before ++ (closing ++ behind) → ⊥

-- less than all of the closing text has been read exactly where it stands nowhere in the bytes, and
-- so many bytes are the longest end that is a front of it
abbrev pub InsideIsOpen : Type 0
InsideIsOpen =
    (closing bytes : List ℕ) (size : ℕ) → bytes ≢ [] → size < length closing →
    IsInside closing bytes size ↔ (IsNowhereIn closing bytes × IsBorder closing bytes size)

-- all of it has been read exactly where it stands at the end of the bytes and nowhere before
abbrev pub InsideIsClosed : Type 0
InsideIsClosed =
    (closing bytes : List ℕ) → bytes ≢ [] →
    IsInside closing bytes (length closing) ↔ EndsFirst bytes closing
