use Rattle.std.proofs.Common.{◌≡◌, take, filter}
use Rattle.spec_lbnf.specs.Expansion.{is_among}
use Rattle.lbnf_grammar.specs.Numbering.{with_new_names}
use Rattle.lbnf_grammar.proofs.names.Names.add_listed.Given as goal

-- those of the names so far that are among the others are added
abbrev pub invariant-loop-name : goal.invariant-loop-name
invariant-loop-name l = l.self ≡ with_new_names l.fn.self (filter (is_among l.others) (take l.name-index l.names))
