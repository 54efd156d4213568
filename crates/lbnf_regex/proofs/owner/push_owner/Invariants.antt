use Rattle.std.proofs.Common.{◌≡◌, ◌++◌, replicate}
use Rattle.lbnf_regex.proofs.owner.push_owner.Given as goal

-- the owner stands behind those before, so many times
abbrev pub invariant-loop-position : goal.invariant-loop-position
invariant-loop-position l = l.owners ≡ l.fn.owners ++ replicate l._position l.owner
