-- The tokens of small files, by hand.
use Rattle.std.specs.Prelude.{ℕ, [], ◌∷◌, codes, replicate}
use Rattle.spec_lbnf.specs.declared.token.Sign.TheVariants.{Gives, Colon, CloseBrace, Minus}
use Rattle.spec_lbnf.specs.declared.token.Sign.TheVariants.{Underscore}
use Rattle.spec_lbnf.specs.declared.token.FileToken.{FileToken}
use Rattle.spec_lbnf.specs.declared.token.FileToken.TheVariants.{Identifier, Number, Text}
use Rattle.spec_lbnf.specs.declared.token.FileToken.TheVariants.{Character, Sign}
use Rattle.spec_lbnf.specs.declared.token.PlacedToken.{PlacedToken}
use Rattle.spec_lbnf.specs.FileTokens.{IsScan}

-- the token at this offset
abbrev pub at : ℕ → FileToken → PlacedToken
at offset token = record { token = token; offset = offset }

-- the identifier a
abbrev pub a : FileToken
a = Identifier (codes "a")

-- the identifier b
abbrev pub b : FileToken
b = Identifier (codes "b")

-- the tokens of small files
pub record SmallScans : Type 0 where
  -- the empty file has none, and white bytes are none
  pub empty_file : IsScan (codes "") [] 0
  pub white_file : IsScan (codes " \t\r\n ") [] 5
  -- `::=` is one sign, and so is `:` where `::=` does not begin with it
  pub gives : IsScan (codes "::=") (at 0 (Sign Gives) ∷ []) 3
  pub colons : IsScan (codes "::") (at 0 (Sign Colon) ∷ at 1 (Sign Colon) ∷ []) 2
  pub colon_gives : IsScan (codes ":::=") (at 0 (Sign Colon) ∷ at 1 (Sign Gives) ∷ []) 4
  -- `=` alone is no token
  pub no_equals : IsScan (codes ":=") (at 0 (Sign Colon) ∷ []) 1
  -- the opening text of a block comment does not close it
  pub open_comment : IsScan (codes "{-}") [] 0
  pub closed_comment : IsScan (codes "{--}") [] 4
  -- comments do not nest
  pub no_nesting : IsScan (codes "{-{--}-}") (at 6 (Sign Minus) ∷ at 7 (Sign CloseBrace) ∷ []) 8
  -- a line comment ends with the line or with the file, and CR does not end a line
  pub line_comment : IsScan (codes "a--b\nb") (at 0 a ∷ at 5 b ∷ []) 6
  pub last_line : IsScan (codes "a --") (at 0 a ∷ []) 4
  pub return_in_line : IsScan (codes "--\rb") [] 4
  pub return_between : IsScan (codes "a\rb") (at 0 a ∷ at 2 b ∷ []) 3
  -- one hyphen is a sign
  pub hyphen : IsScan (codes "a-b") (at 0 a ∷ at 1 (Sign Minus) ∷ at 2 b ∷ []) 3
  -- an identifier begins with a letter
  pub underscore : IsScan (codes "_a_'1")
      (at 0 (Sign Underscore) ∷ at 1 (Identifier (codes "a_'1")) ∷ []) 5
  pub letter_behind_digit : IsScan (codes "1a") (at 0 (Number 1) ∷ at 1 a ∷ []) 2
  -- an identifier has at most 64 bytes
  pub long_name : IsScan (replicate 64 97) (at 0 (Identifier (replicate 64 97)) ∷ []) 64
  pub too_long_name : IsScan (replicate 65 97) [] 0
  -- a number has at most four digits, leading zeros among them
  pub four_digits : IsScan (codes "0020") (at 0 (Number 20) ∷ []) 4
  pub five_digits : IsScan (codes "00020") [] 0
  -- an apostrophe is written by its escape alone
  pub apostrophes : IsScan (codes "'''") [] 0
  pub apostrophe : IsScan (codes "'\\''") (at 0 (Character 39) ∷ []) 4
  -- a character has one scalar, which may have several bytes
  pub no_character : IsScan (codes "''") [] 0
  pub two_characters : IsScan (codes "'ab'") [] 0
  pub two_bytes : IsScan (39 ∷ 195 ∷ 169 ∷ 39 ∷ []) (at 0 (Character 233) ∷ []) 4
  -- a string may be empty and may have escapes, of which there are five
  pub empty_string : IsScan (codes "\"\"") (at 0 (Text []) ∷ []) 2
  pub escapes : IsScan (codes "\"'\\n\\\"\"") (at 0 (Text (codes "'\n\"")) ∷ []) 7
  pub no_escape : IsScan (codes "\"\\a\"") [] 0
  -- a string ends on its line
  pub open_string : IsScan (codes "a\"a") (at 0 a ∷ []) 1
  pub string_over_lines : IsScan (codes "\"\n\"") [] 0
  -- a byte order mark is no token
  pub byte_order_mark : IsScan (239 ∷ 187 ∷ 191 ∷ 97 ∷ []) [] 0
