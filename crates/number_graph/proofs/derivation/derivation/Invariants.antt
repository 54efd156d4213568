use Rattle.std.proofs.Common.{◌-◌}
use Rattle.number_graph.specs.Derivations.{IsSettledUpTo}
use Rattle.number_graph.proofs.derivation.derivation.Given as goal

abbrev pub invariant-loop-next : goal.invariant-loop-next
invariant-loop-next l = IsSettledUpTo l.premises l.conclusions l.numbers l.next l.search

abbrev pub decreases-loop-next : goal.decreases-loop-next
decreases-loop-next l = l.numbers - l.next
