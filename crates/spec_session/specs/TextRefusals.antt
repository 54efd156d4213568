-- When a text is refused, or an edit of one, each with its line. The first cause in order decides:
-- each one holds only where none before it does.
use Rattle.std.specs.Prelude.{◌≡◌, ℕ, ◌+◌, ◌<◌, ◌≤◌, List, ◌++◌, length, codes, decimal, IsUtf8}
use Rattle.std.specs.List.{splice}
use Rattle.std.specs.Str.{IsCharBoundary}
use Rattle.std.specs.Str.Lossy.{utf8_valid_len}
use Rattle.spec_text.specs.declared.limits.TheConstants.{MAX_TOKENS}
use Rattle.spec_lexing.specs.declared.token.Token.{Token}
use Rattle.spec_lexing.specs.Lexicon.{Lexicon}
use Rattle.spec_lexing.specs.Tokens.{AreTokensOf}
use Rattle.spec_script.specs.declared.limits.TheConstants.{MAX_BLOCK}
use Rattle.spec_session.specs.Lines.{as_line, with_number}

-- the line that refuses an edit or a question where no text is open
abbrev pub closed_line : List ℕ
closed_line = as_line (codes "refused closed")

-- the line that refuses a text where one is open
abbrev pub open_line : List ℕ
open_line = as_line (codes "refused open")

-- the line that refuses an edit of what is not in a text of so many bytes
abbrev pub range_line : ℕ → List ℕ
range_line size = as_line (with_number (codes "refused range") size)

-- the line that refuses a text of too many bytes or tokens
abbrev pub full_line : List ℕ
full_line = as_line (codes "refused full")

-- the line that refuses what is not UTF-8 at this place
abbrev pub utf8_line : ℕ → List ℕ
utf8_line place = as_line (with_number (codes "refused utf8") place)

-- the bytes fit a text: they are at most 1,048,576, and UTF-8
pub record IsFitText (text : List ℕ) : Type 0 where
  pub few : length text ≤ MAX_BLOCK
  pub utf8 : IsUtf8 text

-- the text has these tokens under the lexicon, at most 16,384
pub record HasTokens (lexicon : Lexicon) (text : List ℕ) (tokens : List Token) : Type 0 where
  pub are_tokens : AreTokensOf lexicon text tokens
  pub few : length tokens ≤ MAX_TOKENS

-- it has more
abbrev pub HasTooManyTokens : Lexicon → List ℕ → Type 0
HasTooManyTokens lexicon text =
    (tokens : List Token) × AreTokensOf lexicon text tokens × (MAX_TOKENS < length tokens)

-- a text of these bytes is refused with this line: there are too many bytes; or they stop being
-- UTF-8 at a place; or there are too many tokens
pub data IsTextRefused (lexicon : Lexicon) (text line : List ℕ) : Type 0 where
  too_many_bytes : MAX_BLOCK < length text → line ≡ full_line → IsTextRefused lexicon text line
  not_utf8 : length text ≤ MAX_BLOCK → (IsUtf8 text → ⊥) → line ≡ utf8_line (utf8_valid_len text)
      → IsTextRefused lexicon text line
  too_many_tokens : IsFitText text → HasTooManyTokens lexicon text → line ≡ full_line
      → IsTextRefused lexicon text line

-- the text in which the bytes from a place on, so many of them, are replaced by others
abbrev pub edited : List ℕ → ℕ → ℕ → List ℕ → List ℕ
edited text at deleted inserted = splice text at (at + deleted) inserted

module _ (text : List ℕ) (at deleted : ℕ) (inserted : List ℕ) where
  -- what an edit deletes lies in the text, and the edited one has at most 1,048,576 bytes
  pub record HasRoom : Type 0 where
    pub within : at + deleted ≤ length text
    pub few : length (edited text at deleted inserted) ≤ MAX_BLOCK

  -- the edit cuts no scalar of the text, and inserts UTF-8
  pub record KeepsScalars : Type 0 where
    pub before : IsCharBoundary text at
    pub behind : IsCharBoundary text (at + deleted)
    pub inserts : IsUtf8 inserted

  -- the edit is wrong at this place: it cuts a scalar where what it deletes begins; or else where that
  -- ends; or else what it inserts stops being UTF-8 at the byte that would stand there
  pub data IsWrongAt (place : ℕ) : Type 0 where
    cuts_first : (IsCharBoundary text at → ⊥) → place ≡ at → IsWrongAt place
    cuts_last : IsCharBoundary text at → (IsCharBoundary text (at + deleted) → ⊥)
        → place ≡ at + deleted → IsWrongAt place
    inserts_wrong : IsCharBoundary text at → IsCharBoundary text (at + deleted)
        → (IsUtf8 inserted → ⊥) → place ≡ at + utf8_valid_len inserted → IsWrongAt place

  -- the edit is refused with this line: what it deletes ends behind the text; or there would be too
  -- many bytes; or it is wrong at a place; or there would be too many tokens
  pub data IsEditRefused (lexicon : Lexicon) (line : List ℕ) : Type 0 where
    out_of_range : length text < at + deleted → line ≡ range_line (length text)
        → IsEditRefused lexicon line
    grows_too_long : at + deleted ≤ length text
        → MAX_BLOCK < length (edited text at deleted inserted) → line ≡ full_line
        → IsEditRefused lexicon line
    wrong_bytes : (place : ℕ) → HasRoom → IsWrongAt place → line ≡ utf8_line place
        → IsEditRefused lexicon line
    gets_too_many_tokens : HasRoom → KeepsScalars
        → HasTooManyTokens lexicon (edited text at deleted inserted) → line ≡ full_line
        → IsEditRefused lexicon line
