-- Expressions over bytes, and what they match. They have the forms of token expressions, with sets
-- of bytes in place of scalars, and a form for what ends with its first closing text.
use Rattle.std.specs.Prelude.{◌≡◌, ℕ, ◌⊎◌, List, [], ◌∷◌, Contains}
use Rattle.spec_lexing.specs.Matching.{Then, Repeats}
use Rattle.spec_lexing.specs.Kinds.{EndsFirst}

-- an expression over bytes
pub data ByteExpression : Type 0 where
  -- the empty text
  empty : ByteExpression
  -- no text at all
  nothing : ByteExpression
  -- one of these bytes
  byte_in : List ℕ → ByteExpression
  -- the first and then the second
  in_turn : ByteExpression → ByteExpression → ByteExpression
  -- the one or the other
  either : ByteExpression → ByteExpression → ByteExpression
  -- none or more in turn
  star : ByteExpression → ByteExpression
  -- one or more in turn
  plus : ByteExpression → ByteExpression
  -- any bytes up to the end of the first closing text
  until : (closing : List ℕ) → ByteExpression

-- the expression matches the bytes
abbrev pub MatchesBytes : ByteExpression → List ℕ → Type 0
MatchesBytes empty bytes = bytes ≡ []
MatchesBytes nothing bytes = ⊥
MatchesBytes (byte_in set) bytes = (byte : ℕ) × (bytes ≡ byte ∷ []) × Contains set byte
MatchesBytes (in_turn first second) bytes =
    Then (MatchesBytes first) (MatchesBytes second) bytes
MatchesBytes (either left right) bytes = MatchesBytes left bytes ⊎ MatchesBytes right bytes
MatchesBytes (star part) bytes = Repeats (MatchesBytes part) bytes
MatchesBytes (plus part) bytes = Then (MatchesBytes part) (Repeats (MatchesBytes part)) bytes
MatchesBytes (until closing) bytes = EndsFirst bytes closing
