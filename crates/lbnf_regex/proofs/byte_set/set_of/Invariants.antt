use Rattle.std.proofs.Common.{◌≡◌}
use Rattle.std.specs.List.{filter, range_with_len}
use Rattle.lbnf_regex.specs.ByteSets.{kept_of, passes}
use Rattle.lbnf_regex.proofs.byte_set.set_of.Given as goal

-- the bytes so far that pass and are kept
abbrev pub invariant-loop-byte : goal.invariant-loop-byte
invariant-loop-byte l = l.set ≡ kept_of l.removed (filter (passes l.test) (range_with_len 0 l.byte))
