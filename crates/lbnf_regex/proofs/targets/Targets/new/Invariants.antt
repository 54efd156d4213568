use Rattle.std.proofs.Common.{◌≡◌, replicate, []}
use Rattle.lbnf_regex.proofs.targets.Targets.new.Given as goal

-- so many bytes have a set, and it is empty
abbrev pub invariant-loop-byte : goal.invariant-loop-byte
invariant-loop-byte l = (l.sets).items ≡ replicate l._byte []
