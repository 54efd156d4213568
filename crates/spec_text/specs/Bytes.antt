-- Sorts of bytes, in texts and in grammar files alike.
use Rattle.std.specs.Prelude.{ℕ, Bool, ◌&&◌, ◌||◌, nat_eq, nat_le}

-- the byte is white: space, tab, LF, VT, FF or CR
abbrev pub is_white : ℕ → Bool
is_white byte = nat_eq byte 32 || (nat_le 9 byte && nat_le byte 13)

-- the byte is an upper-case letter
abbrev pub is_upper : ℕ → Bool
is_upper byte = nat_le 65 byte && nat_le byte 90

-- the byte is a lower-case letter
abbrev pub is_lower : ℕ → Bool
is_lower byte = nat_le 97 byte && nat_le byte 122

-- the byte is a letter
abbrev pub is_letter : ℕ → Bool
is_letter byte = is_upper byte || is_lower byte

-- the byte is a digit
abbrev pub is_digit : ℕ → Bool
is_digit byte = nat_le 48 byte && nat_le byte 57

-- the byte may stand in an identifier: a letter, a digit, an underscore or an apostrophe
abbrev pub is_name_byte : ℕ → Bool
is_name_byte byte = is_letter byte || is_digit byte || nat_eq byte 95 || nat_eq byte 39
