use Rattle.std.proofs.Common.{◌≡◌, ◌++◌, map, take}
use Rattle.lbnf_grammar.specs.PredefinedKinds.{token_kind, predefined_token}
use Rattle.lbnf_grammar.proofs.lexicon.add_predefined.Given as goal

-- the predefined kinds so far are added
abbrev pub invariant-loop-kind : goal.invariant-loop-kind
invariant-loop-kind l = l.kinds.items ≡ l.fn.kinds.items ++ map token_kind (map predefined_token (take l.kind-index l.active))
