use Rattle.number_graph.proofs.HeightLemmas.{height_with_told}
use Rattle.number_graph.proofs.chains.height_with.Goals as goal

pub returns-in-Some : goal.returns-in-Some
returns-in-Some c =
    height_with_told c.args.height c.in-Some.below c.args.target c.max.result c.in-Some.is c.max.ensures
