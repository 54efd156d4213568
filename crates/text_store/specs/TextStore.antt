-- What a caller sees of a text, and what opening one answers.
use Rattle.std.specs.Prelude.{◌≡◌, ℕ, ◌<◌, ◌≤◌, List, length, All, Result, Ok, Err, IsUtf8}
use Rattle.std.specs.Prelude.{slice_range}
use Rattle.std.specs.Str.Lossy.{utf8_valid_len}
use Rattle.spec_text.specs.declared.limits.TheConstants.{MAX_TOKENS}
use Rattle.spec_lexing.specs.declared.token.Token.{Token}
use Rattle.spec_lexing.specs.Classes.{IsSoundDef}
use Rattle.spec_lexing.specs.Lexicon.{Lexicon}
use Rattle.spec_lexing.specs.Tokens.{AreTokensOf}
use Rattle.lbnf_regex.specs.Automata.{Machine}
use Rattle.lbnf_regex.specs.Lexicons.{IsAutomatonOf}
use Rattle.text_store.specs.declared.fault.EditFault.{EditFault}
use Rattle.text_store.specs.declared.fault.EditFault.TheVariants.{Memory, Range, FullText}
use Rattle.text_store.specs.declared.fault.EditFault.TheVariants.{NotUtf8, FullTokens}
use Rattle.text_store.specs.declared.limits.TheConstants.{MAX_BYTES}

-- a text: its bytes, and its tokens in the order in which they stand
pub record TextValue : Type 0 where
  pub bytes : List ℕ
  pub tokens : List Token

-- the token's own bytes
abbrev pub token_bytes : List ℕ → Token → List ℕ
token_bytes bytes token = slice_range bytes token.first token.end

-- the token's own bytes lie in these
abbrev pub LiesIn : List ℕ → Token → Type 0
LiesIn bytes token = (token.first ≤ token.end) × (token.end ≤ length bytes)

-- both words are UTF-8
abbrev pub AreUtf8 : List ℕ × List ℕ → Type 0
AreUtf8 words = IsUtf8 words.0 × IsUtf8 words.1

-- under the lexicon a text is cut where scalars begin: its kinds are sound, and the words of its
-- comments are UTF-8
pub record IsSoundForTexts (lexicon : Lexicon) : Type 0 where
  pub lines : All IsUtf8 lexicon.line_comments
  pub blocks : All AreUtf8 lexicon.block_comments
  pub kinds : All IsSoundDef lexicon.kinds

-- the automaton is that of the lexicon, which is sound
pub record IsSoundAutomatonOf (lexicon : Lexicon) (a : Machine) : Type 0 where
  pub automaton : IsAutomatonOf lexicon a
  pub sound : IsSoundForTexts lexicon

-- texts are lexed by the automaton as by the lexicon, since it is that of the lexicon
abbrev pub Lexes : Lexicon → Machine → Type 0
Lexes lexicon a = ∥ IsSoundAutomatonOf lexicon a ∥₁

-- a text may have the bytes: there are at most 1,048,576, and they are UTF-8
pub record FitText (bytes : List ℕ) : Type 0 where
  pub few : length bytes ≤ MAX_BYTES
  pub utf8 : IsUtf8 bytes

-- opening a text of these bytes answers one that has them, where they fit it; else there are too
-- many bytes, so many, or they stop being UTF-8 at this byte
abbrev pub OpensBytes : List ℕ → Result TextValue EditFault → Type 0
OpensBytes bytes (Ok text) = FitText bytes × (text.bytes ≡ bytes)
OpensBytes bytes (Err Memory) = FitText bytes
OpensBytes bytes (Err (Range len)) = ⊥
OpensBytes bytes (Err (FullText count)) = (MAX_BYTES < length bytes) × (count ≡ length bytes)
OpensBytes bytes (Err (NotUtf8 at)) =
    (length bytes ≤ MAX_BYTES) × (at ≡ utf8_valid_len bytes) × (at < length bytes)
OpensBytes bytes (Err FullTokens) = FitText bytes

-- and its tokens are those of the bytes under the lexicon, at most 16,384, or these are more
abbrev pub OpensTokens : Lexicon → List ℕ → Result TextValue EditFault → Type 0
OpensTokens lexicon bytes (Ok text) =
    AreTokensOf lexicon bytes text.tokens × (length text.tokens ≤ MAX_TOKENS)
OpensTokens lexicon bytes (Err FullTokens) =
    (tokens : List Token) × AreTokensOf lexicon bytes tokens × (MAX_TOKENS < length tokens)
OpensTokens lexicon bytes (Err other) = Unit {0}
