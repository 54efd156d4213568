-- How the bytes of a token are printed.
use Rattle.std.specs.Prelude.{◌≡◌, ℕ, ◌/◌, ◌%◌, List, [], ◌∷◌, ◌++◌, codes, Bool, ◌||◌}
use Rattle.std.specs.Prelude.{nat_eq, nat_le, cond, flat_map}
use Rattle.std.specs.Char.{digit_char}

-- the byte is a control byte: below 20 (hexadecimal), or 7F
abbrev pub is_control : ℕ → Bool
is_control byte = nat_le byte 31 || nat_eq byte 127

-- the byte in two hexadecimal digits, the letters in lower case
abbrev pub hexadecimal : ℕ → List ℕ
hexadecimal byte = digit_char (byte / 16) ∷ digit_char (byte % 16) ∷ []

-- the byte as it is printed: a control byte as \x and two digits, a backslash doubled, every other
-- byte as it is
abbrev pub printed_byte : ℕ → List ℕ
printed_byte byte =
    cond (is_control byte) (codes "\\x" ++ hexadecimal byte)
    (cond (nat_eq byte 92) (codes "\\\\") (byte ∷ []))

-- the bytes as they are printed
abbrev pub printed : List ℕ → List ℕ
printed bytes = flat_map printed_byte bytes

-- how small texts are printed
pub record PrintsSmallTexts : Type 0 where
  -- letters, spaces and quotes as they are
  pub plain : printed (codes "a \"b\"'") ≡ codes "a \"b\"'"
  -- a backslash is doubled
  pub backslash : printed (codes "a\\n") ≡ codes "a\\\\n"
  -- control bytes are written by their numbers
  pub control : printed (0 ∷ 10 ∷ 31 ∷ 127 ∷ []) ≡ codes "\\x00\\x0a\\x1f\\x7f"
  -- the bytes of a scalar of two bytes stay
  pub two_bytes : printed (195 ∷ 169 ∷ []) ≡ 195 ∷ 169 ∷ []
