use Rattle.number_graph.specs.Implications.{AreImplicationsWithin}
use Rattle.number_graph.proofs.tests.following.Given as goal

abbrev pub invariant-loop-pair : goal.invariant-loop-pair
invariant-loop-pair l = AreImplicationsWithin 6 l.implications
