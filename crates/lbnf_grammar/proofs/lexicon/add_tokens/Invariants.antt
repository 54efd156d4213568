use Rattle.std.proofs.Common.{◌≡◌, ◌++◌, map, take}
use Rattle.std.specs.List.{flat_map}
use Rattle.spec_lbnf.specs.Expansion.{token_in}
use Rattle.lbnf_grammar.specs.PredefinedKinds.{token_kind}
use Rattle.lbnf_grammar.proofs.lexicon.add_tokens.Given as goal

-- the kinds of the token definitions so far are added
abbrev pub invariant-loop-def : goal.invariant-loop-def
invariant-loop-def l = l.kinds.items ≡ l.fn.kinds.items ++ map token_kind (flat_map token_in (take l.def-index l.defs))
