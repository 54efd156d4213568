-- The laws of scalars.
use Rattle.std.specs.Prelude.{◌≡◌, ℕ, length, slice_index}
use Rattle.std.specs.Char.{IsScalar, encode_utf8}
use Rattle.spec_text.specs.Scalars.{scalar_len}

-- the first byte of a scalar tells how many bytes it has
abbrev pub HasScalarsLength : Type 0
HasScalarsLength = (scalar : ℕ) → IsScalar scalar →
    length (encode_utf8 scalar) ≡ scalar_len (slice_index (encode_utf8 scalar) 0)
