use Rattle.std.proofs.Common.{◌≡◌, replicate, []}
use Rattle.number_graph.proofs.derivation.Search.new.Given as goal

-- so many numbers have a list of what waits, and it is empty
abbrev pub invariant-loop-number : goal.invariant-loop-number
invariant-loop-number l = (l.waiting).items ≡ replicate l._number []
