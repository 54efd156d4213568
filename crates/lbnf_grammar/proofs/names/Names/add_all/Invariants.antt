use Rattle.std.proofs.Common.{◌≡◌, take}
use Rattle.lbnf_grammar.specs.Numbering.{with_new_names}
use Rattle.lbnf_grammar.proofs.names.Names.add_all.Given as goal

-- the names so far are added
abbrev pub invariant-loop-name : goal.invariant-loop-name
invariant-loop-name l = l.self ≡ with_new_names l.fn.self (take l.name-index l.names)
