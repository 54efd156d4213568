-- How far a lexer reads before a match is decided.
use Rattle.std.specs.Prelude.{◌≡◌, ℕ, ◌+◌, ◌<◌, ◌≤◌, List, length, drop, take, max}
use Rattle.spec_lexing.specs.Lexicon.{Lexicon}
use Rattle.spec_lexing.specs.Kinds.{lex_kinds}
use Rattle.spec_automata.specs.ByteExpressions.{ByteExpression}
use Rattle.spec_automata.specs.Encoding.{bytes_of_kinds}
use Rattle.spec_automata.specs.Positions.{HasPosition}

-- so many bytes of the rest are read: the least number of bytes, of one or more, that no spelling
-- begins with; where a spelling begins with each front of the rest, one more than there are
pub record IsReadCount (x : ByteExpression) (rest : List ℕ) (count : ℕ) : Type 0 where
  pub some : 0 < count
  pub within : count ≤ length rest + 1
  pub alive : (fewer : ℕ) → 0 < fewer → fewer < count → HasPosition x (take fewer rest)
  pub dead : count ≤ length rest → HasPosition x (take count rest) → ⊥

-- the lookahead of a token of so many bytes at the place: the bytes that are read to decide it, and
-- at least the token's own
pub record IsLookahead (lexicon : Lexicon) (text : List ℕ) (place size look : ℕ) : Type 0 where
  pub count : ℕ
  pub reads : IsReadCount (bytes_of_kinds (lex_kinds lexicon)) (drop place text) count
  pub greater : look ≡ max size count
