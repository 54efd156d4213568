-- Serves the proofs alone. Tests of bytes, and sets without the characters that are removed.
use Rattle.std.specs.Prelude.{ℕ, List, Bool, false, ◌&&◌, not, nat_eq, slice_index_or}
use Rattle.std.specs.List.{filter}
use Rattle.spec_text.specs.Bytes.{is_white}
use Rattle.spec_text.specs.Scalars.{is_between}
use Rattle.spec_lexing.specs.Matching.{is_of_class}
use Rattle.spec_automata.specs.Encoding.{is_ascii}
use Rattle.lbnf_regex.specs.declared.byte_set.ByteTest.{ByteTest}
use Rattle.lbnf_regex.specs.declared.byte_set.ByteTest.TheVariants.{OfClass, Between, White, OnLine}

-- whether the byte passes the test
abbrev pub passes : ByteTest → ℕ → Bool
passes (OfClass class) byte = is_of_class class byte
passes (Between least greatest) byte = is_between least greatest byte
passes White byte = is_white byte
passes OnLine byte = not (nat_eq byte 10)

-- whether the number has a flag
abbrev pub flag_at : List Bool → ℕ → Bool
flag_at flags n = slice_index_or flags n false

-- the set without the ASCII characters that have a flag
abbrev pub kept_of : List Bool → List ℕ → List ℕ
kept_of flags set = filter (λ b. not (is_ascii b && flag_at flags b)) set
