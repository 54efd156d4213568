use Rattle.std.proofs.Common.{◌≡◌, [], map, take}
use Rattle.spec_lbnf.specs.Expansion.{token_names}
use Rattle.lbnf_grammar.specs.Numbering.{with_new_names}
use Rattle.lbnf_grammar.specs.PredefinedKinds.{predefined_name}
use Rattle.lbnf_grammar.proofs.tables.token_table.Given as goal

-- the names of the active kinds so far are behind those of the token definitions
abbrev pub invariant-loop-kind : goal.invariant-loop-kind
invariant-loop-kind l =
    l.names ≡ with_new_names (with_new_names [] (token_names l.defs)) (map predefined_name (take l.kind-index l.active))
