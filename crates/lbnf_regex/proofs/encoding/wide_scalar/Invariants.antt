use Rattle.std.proofs.Common.{◌≡◌, ◌∷◌, map, replicate}
use Rattle.spec_automata.specs.Encoding.{byte_between, next_byte, without}
use Rattle.lbnf_regex.specs.ByteSets.{flag_at}
use Rattle.lbnf_regex.specs.Patterns.{bytes_of_pattern}
use Rattle.lbnf_regex.proofs.encoding.wide_scalar.Given as goal

-- the first byte, and so many behind it
abbrev pub invariant-loop-i : goal.invariant-loop-i
invariant-loop-i l =
    map bytes_of_pattern l.parts
    ≡ without (flag_at l.removed) (byte_between l.least l.greatest) ∷ replicate l.i (without (flag_at l.removed) next_byte)
