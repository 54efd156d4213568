-- What editing a text answers.
use Rattle.std.specs.Prelude.{◌≡◌, ℕ, ◌+◌, ◌-◌, ◌<◌, ◌≤◌, List, length, Option, Some, None}
use Rattle.std.specs.Prelude.{Result, Ok, Err, IsUtf8}
use Rattle.std.specs.Str.{IsCharBoundary}
use Rattle.std.specs.Str.Lossy.{utf8_valid_len}
use Rattle.spec_text.specs.declared.limits.TheConstants.{MAX_TOKENS}
use Rattle.spec_lexing.specs.declared.token.Token.{Token}
use Rattle.spec_lexing.specs.Lexicon.{Lexicon}
use Rattle.spec_lexing.specs.Tokens.{AreTokensOf, kinds_of}
use Rattle.text_store.specs.declared.fault.EditFault.{EditFault}
use Rattle.text_store.specs.declared.fault.EditFault.TheVariants.{Memory, Range, FullText}
use Rattle.text_store.specs.declared.fault.EditFault.TheVariants.{NotUtf8, FullTokens}
use Rattle.text_store.specs.declared.limits.TheConstants.{MAX_BYTES}
use Rattle.text_store.specs.declared.token_edit.TokenEdit.{TokenEdit}
use Rattle.text_store.specs.Splices.{splice}
use Rattle.text_store.specs.TextStore.{TextValue}
use Rattle.text_store.specs.TokenEdits.{IsTrimmedEdit}

-- the number of bytes where so many of a text are replaced by so many others
abbrev pub edited_len : ℕ → ℕ → ℕ → ℕ
edited_len size deleted count = (size - deleted) + count

-- in a text of so many bytes, none keeps an edit of so many from the place on, by so many others,
-- from being made; or what is deleted ends behind the text; or there would be too many bytes
abbrev pub IsSizeFault : ℕ → ℕ → ℕ → ℕ → Option EditFault → Type 0
IsSizeFault size at deleted count None =
    (at + deleted ≤ size) × (edited_len size deleted count ≤ MAX_BYTES)
IsSizeFault size at deleted count (Some (Range len)) = (size < at + deleted) × (len ≡ size)
IsSizeFault size at deleted count (Some (FullText total)) =
    (at + deleted ≤ size) × (MAX_BYTES < edited_len size deleted count)
    × (total ≡ edited_len size deleted count)
IsSizeFault size at deleted count (Some other) = ⊥

module _ (old : List ℕ) (at deleted : ℕ) (inserted : List ℕ) where
  -- the bytes of the edited text
  abbrev pub edited : List ℕ
  edited = splice old at deleted inserted

  -- what is deleted lies in the text, and the edited one has few enough bytes
  pub record HasRoom : Type 0 where
    pub within : at + deleted ≤ length old
    pub few : length edited ≤ MAX_BYTES

  -- no scalar is cut, and what is inserted is UTF-8
  pub record CutsNone : Type 0 where
    pub before : IsCharBoundary old at
    pub behind : IsCharBoundary old (at + deleted)
    pub inserts : IsUtf8 inserted

  -- the edit is not of UTF-8 for this place: it cuts a scalar there, at what is deleted or else behind
  -- it, or else what is inserted stops being UTF-8 at the byte that would stand there
  pub data IsCutAt (place : ℕ) : Type 0 where
    cuts_first : (IsCharBoundary old at → ⊥) → place ≡ at → IsCutAt place
    cuts_last : IsCharBoundary old at → (IsCharBoundary old (at + deleted) → ⊥) →
        place ≡ at + deleted → IsCutAt place
    inserts_wrong : IsCharBoundary old at → IsCharBoundary old (at + deleted) →
        utf8_valid_len inserted < length inserted → place ≡ at + utf8_valid_len inserted →
        IsCutAt place

  -- editing answers a text of the edited bytes, where there is room and none is cut; else the first
  -- of these: what is deleted ends behind the text, there would be too many bytes, so many, or the
  -- edit is not of UTF-8 for this place
  abbrev pub EditsBytes : Result (TextValue × TokenEdit) EditFault → Type 0
  EditsBytes (Ok answer) = HasRoom × CutsNone × ((answer.0).bytes ≡ edited)
  EditsBytes (Err Memory) = HasRoom × CutsNone
  EditsBytes (Err (Range len)) = (length old < at + deleted) × (len ≡ length old)
  EditsBytes (Err (FullText count)) =
      (at + deleted ≤ length old) × (MAX_BYTES < length edited) × (count ≡ length edited)
  EditsBytes (Err (NotUtf8 place)) = HasRoom × IsCutAt place
  EditsBytes (Err FullTokens) = HasRoom × CutsNone

-- the tokens of the answer are those of the edited bytes under the lexicon, at most 16,384, or these
-- are more
abbrev pub EditsTokens : Lexicon → List ℕ → Result (TextValue × TokenEdit) EditFault → Type 0
EditsTokens lexicon bytes (Ok answer) =
    AreTokensOf lexicon bytes (answer.0).tokens × (length (answer.0).tokens ≤ MAX_TOKENS)
EditsTokens lexicon bytes (Err FullTokens) =
    (tokens : List Token) × AreTokensOf lexicon bytes tokens × (MAX_TOKENS < length tokens)
EditsTokens lexicon bytes (Err other) = Unit {0}

-- the answer's edit of kinds is the trimmed one of the kinds of both texts' tokens
abbrev pub TellsEdit : List Token → TextValue × TokenEdit → Type 0
TellsEdit old answer = IsTrimmedEdit (kinds_of old) (kinds_of (answer.0).tokens) answer.1
