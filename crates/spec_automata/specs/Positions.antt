-- Positions of an expression over bytes, and at which of them a spelling of a text can end. Each
-- set of bytes has one, and a closing text one for each front of it: how much of it has been read.
use Rattle.std.specs.Prelude.{◌≡◌, ◌≢◌, ℕ, ◌+◌, ◌≤◌, ◌⊎◌, List, [], ◌∷◌, ◌++◌, length, take}
use Rattle.std.specs.Prelude.{Contains}
use Rattle.spec_lexing.specs.Matching.{Then, Repeats}
use Rattle.spec_automata.specs.ByteExpressions.{ByteExpression, empty, nothing, byte_in, in_turn}
use Rattle.spec_automata.specs.ByteExpressions.{either, star, plus, until, MatchesBytes}

-- the bytes end with these
abbrev pub EndWith : List ℕ → List ℕ → Type 0
EndWith bytes end = (before : List ℕ) × (bytes ≡ before ++ end)

-- so many bytes are the longest end of the bytes that is a front of the closing text
pub record IsBorder (closing bytes : List ℕ) (size : ℕ) : Type 0 where
  pub within : size ≤ length closing
  pub ends : EndWith bytes (take size closing)
  pub longest : (other : ℕ) → other ≤ length closing → EndWith bytes (take other closing)
      → other ≤ size

-- the closing text stands at the end of the bytes, or nowhere
abbrev pub IsLastIn : List ℕ → List ℕ → Type 0
IsLastIn closing bytes =
    (before behind : List ℕ) → bytes ≡ before ++ (closing ++ behind) → behind ≡ []

-- behind the opening text of a comment stand these bytes, some, and so much of the closing text has
-- been read at their end: less than all of it inside the comment, and all where it is closed
pub record IsInside (closing bytes : List ℕ) (size : ℕ) : Type 0 where
  pub some : bytes ≢ []
  pub last : IsLastIn closing bytes
  pub border : IsBorder closing bytes size

-- how many positions the expression has
abbrev pub position_count : ByteExpression → ℕ
position_count empty = 0
position_count nothing = 0
position_count (byte_in set) = 1
position_count (in_turn first second) = position_count first + position_count second
position_count (either left right) = position_count left + position_count right
position_count (star part) = position_count part
position_count (plus part) = position_count part
position_count (until closing) = length closing + 1

-- a spelling of the bytes from the beginning of the expression, whose positions are numbered from
-- first on, can end at the position
abbrev pub EndsAt : ByteExpression → ℕ → List ℕ → ℕ → Type 0
EndsAt empty first bytes position = ⊥
EndsAt nothing first bytes position = ⊥
EndsAt (byte_in set) first bytes position =
    (byte : ℕ) × (bytes ≡ byte ∷ []) × Contains set byte × (position ≡ first)
EndsAt (in_turn x y) first bytes position =
    EndsAt x first bytes position
    ⊎ Then (MatchesBytes x) (λ rest. EndsAt y (first + position_count x) rest position) bytes
EndsAt (either x y) first bytes position =
    EndsAt x first bytes position ⊎ EndsAt y (first + position_count x) bytes position
EndsAt (star x) first bytes position =
    Then (Repeats (MatchesBytes x)) (λ rest. EndsAt x first rest position) bytes
EndsAt (plus x) first bytes position =
    Then (Repeats (MatchesBytes x)) (λ rest. EndsAt x first rest position) bytes
EndsAt (until closing) first bytes position =
    (size : ℕ) × IsInside closing bytes size × (position ≡ first + size)

-- a spelling of the bytes can end at the position, whose number counts from 0
abbrev pub IsPositionOf : ByteExpression → List ℕ → ℕ → Type 0
IsPositionOf x bytes position = EndsAt x 0 bytes position

-- some spelling begins with the bytes
abbrev pub HasPosition : ByteExpression → List ℕ → Type 0
HasPosition x bytes = (position : ℕ) × IsPositionOf x bytes position
