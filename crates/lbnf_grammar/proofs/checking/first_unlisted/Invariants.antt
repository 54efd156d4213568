use Rattle.std.proofs.Common.{All, take}
use Rattle.lbnf_grammar.specs.Checking.{IsListed}
use Rattle.lbnf_grammar.proofs.checking.first_unlisted.Given as goal

-- the names so far are listed
abbrev pub invariant-loop-name : goal.invariant-loop-name
invariant-loop-name l = All (IsListed l.known) (take l.name-index l.names)
