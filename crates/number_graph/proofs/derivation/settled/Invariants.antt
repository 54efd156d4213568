use Rattle.std.proofs.Common.{◌<◌}
use Rattle.number_graph.specs.Derivations.{SettlesEach}
use Rattle.number_graph.proofs.derivation.settled.Given as goal

-- the implications so far are settled
abbrev pub invariant-loop-implication : goal.invariant-loop-implication
invariant-loop-implication l =
    SettlesEach l.premises l.conclusions (λ i. i < l.implication) l.initial.search l.search
