-- How long the scalars of a text are.
use Rattle.std.specs.Prelude.{ℕ, Bool, ◌&&◌, nat_le, cond}

-- the byte lies between these two, both included
abbrev pub is_between : ℕ → ℕ → ℕ → Bool
is_between least greatest byte = nat_le least byte && nat_le byte greatest

-- how many bytes the scalar with this first byte has, and 1 for a byte that begins no scalar:
-- 00 to 7F one, C2 to DF two, E0 to EF three, F0 to F4 four
abbrev pub scalar_len : ℕ → ℕ
scalar_len byte =
    cond (is_between 194 223 byte) 2
    (cond (is_between 224 239 byte) 3
    (cond (is_between 240 244 byte) 4 1))
