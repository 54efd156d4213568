use Rattle.std.proofs.Common.{◌≡◌, replicate, []}
use Rattle.number_graph.proofs.links.Links.new.Given as goal

-- so many numbers have a list, and it is empty
abbrev pub invariant-loop-number : goal.invariant-loop-number
invariant-loop-number l = (l.lists).items ≡ replicate l._number []
