use Rattle.std.proofs.Common.{take}
use Rattle.std.specs.List.{Contains}
use Rattle.number_graph.specs.Derivations.{SettlesEach}
use Rattle.number_graph.proofs.derivation.Search.settle_all.Given as goal

-- the implications so far are settled
abbrev pub invariant-loop-implication : goal.invariant-loop-implication
invariant-loop-implication l =
    SettlesEach l.premises l.conclusions (Contains (take l.implication-index l.implications)) l.fn.self l.self
