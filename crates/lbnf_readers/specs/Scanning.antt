-- Scanning a grammar file: a function for each sort of token and of what separates tokens. Serves
-- the proofs alone: what tokens are is said in FileTokens.
use Rattle.std.specs.Prelude.{◌≡◌, ◌++◌, ℕ, zero, suc, ◌-◌, List, [], ◌∷◌, length, take, drop}
use Rattle.std.specs.Prelude.{codes, Bool}
use Rattle.std.specs.Prelude.{true, false, cond, not, ◌&&◌, nat_eq, nat_le, bytes_eq, Option, Some}
use Rattle.std.specs.Prelude.{None, chars, option_map, option_and_then, slice_index}
use Rattle.std.specs.Char.{encode_utf8}
use Rattle.std.specs.List.{prefix_len, list_any}
use Rattle.std.specs.Str.{all_scalars}
use Rattle.std.specs.Str.Parse.{digits_value}
use Rattle.spec_text.specs.Bytes.{is_white}
use Rattle.spec_lbnf.specs.declared.token.Sign.{Sign}
use Rattle.spec_lbnf.specs.declared.token.Sign.TheVariants.{Dot, Semicolon, Gives, Colon}
use Rattle.spec_lbnf.specs.declared.token.Sign.TheVariants.{OpenBracket, CloseBracket}
use Rattle.spec_lbnf.specs.declared.token.Sign.TheVariants.{OpenParen, CloseParen, OpenBrace}
use Rattle.spec_lbnf.specs.declared.token.Sign.TheVariants.{CloseBrace, Comma, Bar, Star, Plus}
use Rattle.spec_lbnf.specs.declared.token.Sign.TheVariants.{Question, Minus, Underscore}
use Rattle.spec_lbnf.specs.declared.token.FileToken.{FileToken}
use Rattle.spec_lbnf.specs.declared.token.FileToken.TheVariants.{Identifier, Number, Text}
use Rattle.spec_lbnf.specs.declared.token.FileToken.TheVariants.{Character}
use Rattle.spec_lbnf.specs.declared.token.FileToken.TheVariants.{Sign as SignToken}
use Rattle.spec_lbnf.specs.declared.token.PlacedToken.{PlacedToken}
use Rattle.spec_text.specs.Bytes.{is_name_byte}
use Rattle.spec_lbnf.specs.FileTokens.{Separates, Skips, escaped, longer_by, IsTokenBefore}
use Rattle.spec_text.specs.Bytes.{is_letter, is_digit}

-- a white byte or a comment stands at the front of the bytes, and the rest is behind it
abbrev pub IsSpaceAt : List ℕ → List ℕ → Type 0
IsSpaceAt bytes rest = (space : List ℕ) × (bytes ≡ space ++ rest) × Separates space rest

-- white bytes and comments stand at the front of the bytes, or none, and the rest is behind them
abbrev pub SkipsTo : List ℕ → List ℕ → Type 0
SkipsTo bytes rest = (skipped : List ℕ) × (bytes ≡ skipped ++ rest) × Skips skipped rest

-- this token is the longest at the front of the bytes, and the rest is behind it
abbrev pub IsTokenAt : FileToken → List ℕ → List ℕ → Type 0
IsTokenAt token bytes rest =
    (written : List ℕ) × (bytes ≡ written ++ rest) × IsTokenBefore token written rest

-- the value, if the test passes
abbrev pub only_if : {A : Type 0} → Bool → A → Option A
only_if passes x = cond passes (Some x) None

-- the bytes begin with these
abbrev pub has_front : List ℕ → List ℕ → Bool
has_front front bytes = bytes_eq (take (length front) bytes) front

-- the byte does not end a line
abbrev pub is_in_line : ℕ → Bool
is_in_line byte = not (nat_eq byte 10)

-- what is left of the bytes where their first line ends
abbrev pub behind_line : List ℕ → List ℕ
behind_line bytes = drop (prefix_len is_in_line bytes) bytes

-- what is behind the first closing text of a block comment
unfoldable pub behind_closing : List ℕ → Option (List ℕ)
behind_closing [] = None
behind_closing (byte ∷ bytes) =
    cond (has_front (codes "-}") (byte ∷ bytes)) (Some (drop 1 bytes)) (behind_closing bytes)

-- what is behind the white byte at the front
abbrev pub behind_white : List ℕ → Option (List ℕ)
behind_white [] = None
behind_white (byte ∷ bytes) = only_if (is_white byte) bytes

-- what is behind the white byte or the comment at the front
unfoldable pub behind_space : List ℕ → Option (List ℕ)
behind_space bytes =
    cond (has_front (codes "--") bytes) (Some (behind_line (drop 2 bytes)))
    (cond (has_front (codes "{-") bytes) (behind_closing (drop 2 bytes)) (behind_white bytes))

-- the identifier at the front of bytes that begin with a letter, and what is behind it
unfoldable pub identifier_at : List ℕ → Option (FileToken × List ℕ)
identifier_at bytes =
    let n : ℕ = prefix_len is_name_byte bytes in
    only_if (nat_le n 64) (Identifier (take n bytes), drop n bytes)

-- the number at the front of bytes that begin with a digit, and what is behind it
unfoldable pub number_token_at : List ℕ → Option (FileToken × List ℕ)
number_token_at bytes =
    let n : ℕ = prefix_len is_digit bytes in
    only_if (nat_le n 4) (Number (digits_value 10 (take n bytes)), drop n bytes)

-- a byte may stand behind the backslash of an escape
abbrev pub is_escape : ℕ → Bool
is_escape byte = list_any (nat_eq byte) (codes "\"'\\nt")

-- the byte before a value that is read
abbrev pub byte_before : ℕ → List ℕ × List ℕ → List ℕ × List ℕ
byte_before byte read = (byte ∷ read.0, read.1)

-- what a literal stands for up to its closing quote, and what is behind that, where the test says
-- whether a backslash stands before the bytes
unfoldable pub literal_from : ℕ → Bool → List ℕ → Option (List ℕ × List ℕ)
literal_from quote escapes [] = None
literal_from quote true (byte ∷ bytes) =
    cond (is_escape byte)
    (option_map (byte_before (escaped byte)) (literal_from quote false bytes)) None
literal_from quote false (byte ∷ bytes) =
    cond (nat_eq byte quote) (Some ([], bytes))
    (cond (nat_eq byte 92) (literal_from quote true bytes)
    (cond (nat_eq byte 10) None (option_map (byte_before byte) (literal_from quote false bytes))))

-- the string that is read
abbrev pub string_of : List ℕ × List ℕ → FileToken × List ℕ
string_of read = (Text read.0, read.1)

-- the string whose opening quote stands before the bytes, and what is behind it
unfoldable pub string_at : List ℕ → Option (FileToken × List ℕ)
string_at bytes = option_map string_of (literal_from 34 false bytes)

-- the bytes are those of this scalar
abbrev pub is_encoded : ℕ → List ℕ → Bool
is_encoded scalar bytes = all_scalars (scalar ∷ []) && bytes_eq (encode_utf8 scalar) bytes

-- the character that is read, where it is one scalar
abbrev pub character_of : List ℕ × List ℕ → Option (FileToken × List ℕ)
character_of read =
    let scalar : ℕ = slice_index (chars read.0) 0 in
    only_if (is_encoded scalar read.0) (Character scalar, read.1)

-- the character whose opening quote stands before the bytes, and what is behind it
unfoldable pub character_at : List ℕ → Option (FileToken × List ℕ)
character_at bytes = option_and_then character_of (literal_from 39 false bytes)

-- the sign of this one byte
abbrev pub byte_sign : ℕ → Option Sign
byte_sign byte =
    cond (nat_eq byte 46) (Some Dot) (cond (nat_eq byte 59) (Some Semicolon)
    (cond (nat_eq byte 58) (Some Colon) (cond (nat_eq byte 91) (Some OpenBracket)
    (cond (nat_eq byte 93) (Some CloseBracket) (cond (nat_eq byte 40) (Some OpenParen)
    (cond (nat_eq byte 41) (Some CloseParen) (cond (nat_eq byte 123) (Some OpenBrace)
    (cond (nat_eq byte 125) (Some CloseBrace) (cond (nat_eq byte 44) (Some Comma)
    (cond (nat_eq byte 124) (Some Bar) (cond (nat_eq byte 42) (Some Star)
    (cond (nat_eq byte 43) (Some Plus) (cond (nat_eq byte 63) (Some Question)
    (cond (nat_eq byte 45) (Some Minus) (cond (nat_eq byte 95) (Some Underscore) None)))))))))))))))

-- the bytes begin with these, if there are any
abbrev pub has_more : Option (List ℕ) → List ℕ → Bool
has_more (Some more) bytes = has_front more bytes
has_more None bytes = false

-- the sign, unless a longer one or a comment begins with it
abbrev pub longest_of : List ℕ → Sign → Option (FileToken × List ℕ)
longest_of rest sign = only_if (not (has_more (longer_by sign) rest)) (SignToken sign, rest)

-- the sign at the front, and what is behind it
unfoldable pub sign_token_at : List ℕ → Option (FileToken × List ℕ)
sign_token_at [] = None
sign_token_at (byte ∷ bytes) =
    cond (has_front (codes "::=") (byte ∷ bytes)) (Some (SignToken Gives, drop 2 bytes))
    (option_and_then (longest_of bytes) (byte_sign byte))

-- the token at the front, by its first byte, and what is behind it
unfoldable pub file_token_at : List ℕ → Option (FileToken × List ℕ)
file_token_at [] = None
file_token_at (byte ∷ bytes) =
    cond (is_letter byte) (identifier_at (byte ∷ bytes))
    (cond (is_digit byte) (number_token_at (byte ∷ bytes))
    (cond (nat_eq byte 34) (string_at bytes)
    (cond (nat_eq byte 39) (character_at bytes) (sign_token_at (byte ∷ bytes)))))

-- the token before the tokens that are read
abbrev pub token_before : PlacedToken → List PlacedToken × ℕ → List PlacedToken × ℕ
token_before token read = (token ∷ read.0, read.1)

-- the tokens from an offset on, and the offset up to which they reach: those behind what separates
-- tokens, or else a token and those behind it, or none
abbrev pub tokens_by : (List ℕ → List PlacedToken × ℕ) → ℕ → Option (List ℕ)
    → Option (FileToken × List ℕ) → List PlacedToken × ℕ
tokens_by others offset (Some behind) read = others behind
tokens_by others offset None (Some read) =
    token_before (record { token = read.0; offset = offset }) (others read.1)
tokens_by others offset None None = ([], offset)

-- the tokens of the last bytes of a text of so many, where these bytes are fewer than the turns
unfoldable pub tokens_from : ℕ → ℕ → List ℕ → List PlacedToken × ℕ
tokens_from zero size bytes = ([], size - length bytes)
tokens_from (suc turns) size bytes =
    tokens_by (tokens_from turns size) (size - length bytes) (behind_space bytes)
    (file_token_at bytes)

-- the tokens of a file, and the offset up to which they reach
abbrev pub scan_of : List ℕ → List PlacedToken × ℕ
scan_of bytes = tokens_from (suc (length bytes)) (length bytes) bytes
