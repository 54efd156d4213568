use Rattle.std.proofs.Common.{◌≡◌, ◌&&◌, nat_eq}
use Rattle.std.specs.List.{filter, range_with_len}
use Rattle.std.specs.Set.{is_member}
use Rattle.spec_automata.specs.Encoding.{is_ascii}
use Rattle.lbnf_regex.specs.ByteSets.{kept_of}
use Rattle.lbnf_regex.proofs.byte_set.set_of_scalars.Given as goal

-- the bytes so far that are among the scalars and kept
abbrev pub invariant-loop-byte : goal.invariant-loop-byte
invariant-loop-byte l =
    l.set ≡ kept_of l.removed (filter (λ b. is_ascii b && is_member nat_eq l.scalars b) (range_with_len 0 l.byte))
