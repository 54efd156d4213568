use Rattle.number_graph.specs.HeightSteps.{AreNumbersBelow}
use Rattle.number_graph.proofs.chains.numbers_below.Given as goal

abbrev pub invariant-loop-number : goal.invariant-loop-number
invariant-loop-number l = AreNumbersBelow l.number (l.numbers).items
