-- The tokens of a grammar file, by longest match, and what separates them.
use Rattle.std.specs.Prelude.{◌≡◌, ℕ, ◌+◌, ◌<◌, ◌≤◌, ◌⊎◌, List, [], ◌∷◌, ◌++◌, length, codes, Bool}
use Rattle.std.specs.Prelude.{true, false, All, Contains, map, flat_map, cond}
use Rattle.std.specs.Prelude.{Option, Some, None, nat_eq, not, IfSome}
use Rattle.std.specs.Char.{IsScalar, encode_utf8}
use Rattle.std.specs.Str.Parse.{digits_value}
use Rattle.spec_text.specs.declared.limits.TheConstants.{MAX_IDENTIFIER}
use Rattle.spec_text.specs.Bytes.{is_white, is_letter, is_digit, is_name_byte}
use Rattle.spec_lexing.specs.Kinds.{EndsFirst}
use Rattle.spec_lbnf.specs.declared.token.Sign.{Sign}
use Rattle.spec_lbnf.specs.declared.token.Sign.TheVariants.{Dot, Semicolon, Gives, Colon}
use Rattle.spec_lbnf.specs.declared.token.Sign.TheVariants.{OpenBracket, CloseBracket}
use Rattle.spec_lbnf.specs.declared.token.Sign.TheVariants.{OpenParen, CloseParen, OpenBrace}
use Rattle.spec_lbnf.specs.declared.token.Sign.TheVariants.{CloseBrace, Comma, Bar, Star, Plus}
use Rattle.spec_lbnf.specs.declared.token.Sign.TheVariants.{Question, Minus, Underscore}
use Rattle.spec_lbnf.specs.declared.token.FileToken.{FileToken}
use Rattle.spec_lbnf.specs.declared.token.FileToken.TheVariants.{Identifier, Number, Text}
use Rattle.spec_lbnf.specs.declared.token.FileToken.TheVariants.{Character}
use Rattle.spec_lbnf.specs.declared.token.FileToken.TheVariants.{Sign as SignToken}
use Rattle.spec_lbnf.specs.declared.token.PlacedToken.{PlacedToken}

-- the first of the bytes passes
abbrev pub FirstIs : (ℕ → Bool) → List ℕ → Type 0
FirstIs passes [] = ⊥
FirstIs passes (byte ∷ bytes) = passes byte ≡ true

-- a run of bytes that pass ends before these: there are none, or the first does not pass
abbrev pub RunEnds : (ℕ → Bool) → List ℕ → Type 0
RunEnds passes [] = Unit {0}
RunEnds passes (byte ∷ bytes) = passes byte ≡ false

-- these are a front of the bytes
abbrev pub HasFront : List ℕ → List ℕ → Type 0
HasFront front bytes = (rest : List ℕ) × (bytes ≡ front ++ rest)

-- the bytes are one white byte
abbrev pub IsWhiteByte : List ℕ → Type 0
IsWhiteByte bytes = (byte : ℕ) × (is_white byte ≡ true) × (bytes ≡ byte ∷ [])

-- the bytes are a line comment before the rest: two hyphens, and what is left of the line
pub record IsLineComment (bytes rest : List ℕ) : Type 0 where
  pub line : List ℕ
  pub on_line : All (λ byte. nat_eq byte 10 ≡ false) line
  pub stops : RunEnds (λ byte. not (nat_eq byte 10)) rest
  pub whole : bytes ≡ codes "--" ++ line

-- the bytes are a block comment: an opening text, and all up to the next closing text
pub record IsBlockComment (bytes : List ℕ) : Type 0 where
  pub block : List ℕ
  pub closed : EndsFirst block (codes "-}")
  pub whole : bytes ≡ codes "{-" ++ block

-- the bytes separate tokens before the rest: they are a white byte or a comment
abbrev pub Separates : List ℕ → List ℕ → Type 0
Separates bytes rest = IsWhiteByte bytes ⊎ (IsLineComment bytes rest ⊎ IsBlockComment bytes)

-- the bytes are any number of white bytes and comments before the rest
pub data Skips : List ℕ → List ℕ → Type 0 where
  -- they are none
  nothing : (bytes rest : List ℕ) → bytes ≡ [] → Skips bytes rest
  -- they are one, and others behind it
  goes_on : (bytes first others rest : List ℕ) → bytes ≡ first ++ others
      → Separates first (others ++ rest) → Skips others rest → Skips bytes rest

-- the bytes are an identifier: a letter, and letters, digits, underscores and apostrophes behind
-- it, at most 64 bytes together
pub record IsIdentifier (bytes : List ℕ) : Type 0 where
  pub letter : FirstIs is_letter bytes
  pub each : All (λ byte. is_name_byte byte ≡ true) bytes
  pub short : length bytes ≤ MAX_IDENTIFIER

-- the bytes are one to four digits
pub record IsNumber (bytes : List ℕ) : Type 0 where
  pub some : 0 < length bytes
  pub each : All (λ byte. is_digit byte ≡ true) bytes
  pub short : length bytes ≤ 4

-- a part of a literal as it is written: an escape, or a byte that stands for itself
pub data LiteralPart : Type 0 where
  plain : ℕ → LiteralPart
  escape : ℕ → LiteralPart

-- what may stand in a literal with this quote: of escapes a quote, an apostrophe, a backslash, n
-- and t, and else any byte but the quote, a backslash and LF
abbrev pub IsLiteralPart : ℕ → LiteralPart → Type 0
IsLiteralPart quote (plain byte) = Contains (quote ∷ 92 ∷ 10 ∷ []) byte → ⊥
IsLiteralPart quote (escape byte) = Contains (codes "\"'\\nt") byte

-- the bytes of a part
abbrev pub part_bytes : LiteralPart → List ℕ
part_bytes (plain byte) = byte ∷ []
part_bytes (escape byte) = 92 ∷ byte ∷ []

-- the byte that an escape stands for: LF for n, tab for t, and itself for any other
abbrev pub escaped : ℕ → ℕ
escaped byte = cond (nat_eq byte 110) 10 (cond (nat_eq byte 116) 9 byte)

-- the byte that a part stands for
abbrev pub part_value : LiteralPart → ℕ
part_value (plain byte) = byte
part_value (escape byte) = escaped byte

-- the bytes are parts between two of this quote, and the value is what the parts stand for
pub record IsLiteral (quote : ℕ) (value bytes : List ℕ) : Type 0 where
  pub parts : List LiteralPart
  pub each : All (IsLiteralPart quote) parts
  pub whole : bytes ≡ quote ∷ flat_map part_bytes parts ++ quote ∷ []
  pub means : value ≡ map part_value parts

-- the bytes of a sign
abbrev pub sign_bytes : Sign → List ℕ
sign_bytes Dot = codes "."
sign_bytes Semicolon = codes ";"
sign_bytes Gives = codes "::="
sign_bytes Colon = codes ":"
sign_bytes OpenBracket = codes "["
sign_bytes CloseBracket = codes "]"
sign_bytes OpenParen = codes "("
sign_bytes CloseParen = codes ")"
sign_bytes OpenBrace = codes "{"
sign_bytes CloseBrace = codes "}"
sign_bytes Comma = codes ","
sign_bytes Bar = codes "|"
sign_bytes Star = codes "*"
sign_bytes Plus = codes "+"
sign_bytes Question = codes "?"
sign_bytes Minus = codes "-"
sign_bytes Underscore = codes "_"

-- what a longer sign or the opening of a comment has behind the sign
abbrev pub longer_by : Sign → Option (List ℕ)
longer_by Colon = Some (codes ":=")
longer_by OpenBrace = Some (codes "-")
longer_by Minus = Some (codes "-")
longer_by other = None

-- no longer sign and no comment begins with the sign and goes on with the rest
abbrev pub IsLongestSign : Sign → List ℕ → Type 0
IsLongestSign sign rest = IfSome (longer_by sign) (λ more. HasFront more rest → ⊥)

-- the bytes are this token, and where the rest is behind them no longer token begins with them
abbrev pub IsTokenBefore : FileToken → List ℕ → List ℕ → Type 0
IsTokenBefore (Identifier name) bytes rest =
    IsIdentifier bytes × RunEnds is_name_byte rest × (name ≡ bytes)
IsTokenBefore (Number value) bytes rest =
    IsNumber bytes × RunEnds is_digit rest × (value ≡ digits_value 10 bytes)
IsTokenBefore (Text value) bytes rest = IsLiteral 34 value bytes
IsTokenBefore (Character scalar) bytes rest =
    IsScalar scalar × IsLiteral 39 (encode_utf8 scalar) bytes
IsTokenBefore (SignToken sign) bytes rest = IsLongestSign sign rest × (bytes ≡ sign_bytes sign)

-- neither a token nor what separates tokens is at the front of the bytes
pub record IsStuck (bytes : List ℕ) : Type 0 where
  pub no_token : (token : FileToken) (written rest : List ℕ) → bytes ≡ written ++ rest
      → IsTokenBefore token written rest → ⊥
  pub no_space : (space rest : List ℕ) → bytes ≡ space ++ rest → Separates space rest → ⊥

-- the tokens of bytes that begin at this offset are these, each at the offset behind all that is
-- read before it, up to the offset of the end or of the first byte at which no token begins
abbrev pub AreFileTokensFrom : ℕ → List ℕ → List PlacedToken → ℕ → Type 0
AreFileTokensFrom start bytes [] stop =
    (skipped rest : List ℕ) × (bytes ≡ skipped ++ rest) × Skips skipped rest
    × (stop ≡ start + length skipped) × IsStuck rest
AreFileTokensFrom start bytes (token ∷ tokens) stop =
    (skipped written rest : List ℕ) × (bytes ≡ skipped ++ (written ++ rest))
    × Skips skipped (written ++ rest) × (token.offset ≡ start + length skipped)
    × IsTokenBefore token.token written rest
    × AreFileTokensFrom (token.offset + length written) rest tokens stop

-- the tokens of the file are these, up to the offset where it ends or no token begins
abbrev pub IsScan : List ℕ → List PlacedToken → ℕ → Type 0
IsScan bytes tokens stop = AreFileTokensFrom 0 bytes tokens stop
