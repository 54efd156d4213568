use Rattle.std.proofs.Common.{All, take}
use Rattle.lbnf_grammar.specs.Checking.{IsUnlisted}
use Rattle.lbnf_grammar.proofs.checking.first_listed.Given as goal

-- no name so far is listed
abbrev pub invariant-loop-name : goal.invariant-loop-name
invariant-loop-name l = All (IsUnlisted l.known) (take l.name-index l.names)
