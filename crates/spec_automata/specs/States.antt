-- States of an automaton for all kinds: the start, and the different sets of positions of texts.
use Rattle.std.specs.Prelude.{◌≢◌, ℕ, ◌<◌, ◌↔◌, List, [], All}
use Rattle.spec_text.specs.declared.limits.TheConstants.{MAX_STATES}
use Rattle.spec_lexing.specs.Lexicon.{Lexicon}
use Rattle.spec_lexing.specs.Kinds.{lex_kinds}
use Rattle.spec_automata.specs.ByteExpressions.{ByteExpression}
use Rattle.spec_automata.specs.Encoding.{bytes_of_kinds}
use Rattle.spec_automata.specs.Positions.{IsPositionOf, HasPosition}

-- each is a byte
abbrev pub AreBytes : List ℕ → Type 0
AreBytes bytes = All (λ byte. byte < 256) bytes

-- two texts have the same positions
abbrev pub HaveSamePositions : ByteExpression → List ℕ → List ℕ → Type 0
HaveSamePositions x bytes others =
    (position : ℕ) → IsPositionOf x bytes position ↔ IsPositionOf x others position

-- the text leads from the start to a state behind it: it is of bytes, some, and has a position
pub record LeadsOn (x : ByteExpression) (bytes : List ℕ) : Type 0 where
  pub are_bytes : AreBytes bytes
  pub some : bytes ≢ []
  pub alive : HasPosition x bytes

-- there are so many texts that lead on, and no two of them have the same positions
pub record HasManySets (x : ByteExpression) (count : ℕ) : Type 0 where
  pub text : ℕ → List ℕ
  pub leads : (i : ℕ) → i < count → LeadsOn x (text i)
  pub differ : (i j : ℕ) → i < j → j < count → HaveSamePositions x (text i) (text j) → ⊥

-- there are too many states under the lexicon: with the start more than MAX_STATES
abbrev pub HasTooManyStates : Lexicon → Type 0
HasTooManyStates lexicon = HasManySets (bytes_of_kinds (lex_kinds lexicon)) MAX_STATES
