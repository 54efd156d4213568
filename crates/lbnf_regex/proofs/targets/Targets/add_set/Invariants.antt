use Rattle.std.proofs.Common.{◌≡◌, take}
use Rattle.std.specs.List.{Contains}
use Rattle.lbnf_regex.specs.Sets.{AddsTargets}
use Rattle.lbnf_regex.proofs.targets.Targets.add_set.Given as goal

-- the bytes so far lead to the position
abbrev pub invariant-loop-byte : goal.invariant-loop-byte
invariant-loop-byte l =
    AddsTargets (λ b p. Contains (take l.byte-index l.set) b × (p ≡ l.position)) l.fn.self l.self
