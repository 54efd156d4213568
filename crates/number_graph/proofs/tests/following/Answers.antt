use Rattle.number_graph.proofs.ImplicationLemmas.{none_within}
use Rattle.number_graph.proofs.tests.following.Goals as goal

pub loop-pair-init : goal.loop-pair-init
loop-pair-init c = none_within 6 c.in_ok-implications.implications c.in_ok-implications.ensures
