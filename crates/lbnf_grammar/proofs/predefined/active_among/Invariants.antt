use Rattle.std.proofs.Common.{◌≡◌, filter, take}
use Rattle.lbnf_grammar.specs.PredefinedKinds.{predefined_name, is_free_use}
use Rattle.lbnf_grammar.proofs.predefined.active_among.Given as goal

-- the kinds so far whose names are used and not taken
abbrev pub invariant-loop-kind : goal.invariant-loop-kind
invariant-loop-kind l =
    l.active.items ≡ filter (λ kind. is_free_use l.used l.taken (predefined_name kind)) (take l.kind-index l.kinds)
