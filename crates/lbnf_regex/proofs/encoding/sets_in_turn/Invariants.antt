use Rattle.std.proofs.Common.{◌≡◌, map, take}
use Rattle.std.proofs.Common.{[], ◌∷◌}
use Rattle.spec_automata.specs.ByteExpressions.{byte_in}
use Rattle.lbnf_regex.specs.ByteSets.{kept_of}
use Rattle.lbnf_regex.specs.Patterns.{bytes_of_pattern}
use Rattle.lbnf_regex.proofs.encoding.sets_in_turn.Given as goal

-- the sets of the bytes so far
abbrev pub invariant-loop-byte : goal.invariant-loop-byte
invariant-loop-byte l =
    map bytes_of_pattern l.parts ≡ map (λ b. byte_in (kept_of l.removed (b ∷ []))) (take l.byte-index l.bytes)
