-- The positions of small texts, by hand. a is 97, b is 98.
use Rattle.std.specs.Prelude.{◌≡◌, ℕ, List, [], ◌∷◌, codes}
use Rattle.spec_lexing.specs.Expressions.{minus}
use Rattle.spec_lexing.specs.Kinds.{block_comment, line_comment, white}
use Rattle.spec_lexing.specs.Predefined.{digit, char, any_char_of}
use Rattle.spec_automata.specs.ByteExpressions.{ByteExpression, byte_in, either, star}
use Rattle.spec_automata.specs.Encoding.{bytes_of, bytes_of_kind, literal}
use Rattle.spec_automata.specs.Positions.{position_count, IsPositionOf, HasPosition}

-- the word ab
abbrev pub word_ab : ByteExpression
word_ab = literal (codes "ab")

-- a or a, each with a set of its own
abbrev pub either_a : ByteExpression
either_a = either (byte_in (97 ∷ [])) (byte_in (97 ∷ []))

-- none or more a, and nothing but a
abbrev pub repeated_a : ByteExpression
repeated_a = star (byte_in (97 ∷ []))

-- positions of small texts
pub record HasPositionsOfWords : Type 0 where
  -- a word has a position for each byte that has been read of it
  pub front : IsPositionOf word_ab (codes "a") 0
  pub whole : IsPositionOf word_ab (codes "ab") 1
  -- before the first byte there is none
  pub empty_text : HasPosition word_ab [] → ⊥
  -- no spelling begins with another byte
  pub other : HasPosition word_ab (codes "b") → ⊥
  -- alternatives that begin alike have a position each
  pub left : IsPositionOf either_a (codes "a") 0
  pub right : IsPositionOf either_a (codes "a") 1
  -- a repeated expression has one copy
  pub again : IsPositionOf repeated_a (codes "aa") 0
  -- a set without bytes is never met
  pub no_bytes : (bytes : List ℕ) → HasPosition (byte_in []) bytes → ⊥

-- how many positions small expressions have
pub record HasPositionCounts : Type 0 where
  -- a word has one for each byte
  pub words : position_count word_ab ≡ 2
  -- a class of ASCII characters has one, and any scalar has ten
  pub digits : position_count (bytes_of digit) ≡ 1
  pub scalars : position_count (bytes_of char) ≡ 10
  -- a difference has those of its left side, also where a set is left without bytes
  pub differences : position_count (bytes_of (minus char (any_char_of "xy"))) ≡ 10
  pub no_digits : position_count (bytes_of (minus digit digit)) ≡ 1
  -- white space has one
  pub white_space : position_count (bytes_of_kind white) ≡ 1
  -- a line comment has one for each byte of its word, and one behind it
  pub lines : position_count (bytes_of_kind (line_comment (codes "--"))) ≡ 3
  -- a block comment has one for each byte of its opening word, and one for each front of the
  -- closing one, all of it included
  pub blocks : position_count (bytes_of_kind (block_comment (codes "/*") (codes "*/"))) ≡ 5
