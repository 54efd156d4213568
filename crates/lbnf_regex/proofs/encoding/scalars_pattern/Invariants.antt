use Rattle.std.proofs.Common.{◌≡◌, ◌∷◌, ◌&&◌, nat_eq, map, take}
use Rattle.std.specs.Char.{encode_utf8}
use Rattle.std.specs.Set.{is_member}
use Rattle.spec_automata.specs.ByteExpressions.{byte_in}
use Rattle.spec_automata.specs.Encoding.{bytes_that, is_ascii, literal, wide_scalars, without}
use Rattle.lbnf_regex.specs.ByteSets.{flag_at, kept_of}
use Rattle.lbnf_regex.specs.Patterns.{bytes_of_pattern}
use Rattle.lbnf_regex.proofs.encoding.scalars_pattern.Given as goal

-- the set of ASCII characters, and the sequences of the other scalars so far
abbrev pub invariant-loop-scalar : goal.invariant-loop-scalar
invariant-loop-scalar l =
    map bytes_of_pattern l.parts
    ≡ byte_in (kept_of l.removed (bytes_that (λ b. is_ascii b && is_member nat_eq l.scalar-items b)))
    ∷ map (λ c. without (flag_at l.removed) (literal (encode_utf8 c))) (wide_scalars (take l.scalar-index l.scalar-items))
