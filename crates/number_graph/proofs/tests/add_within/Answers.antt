use Rattle.number_graph.proofs.ImplicationLemmas.{implication_within}
use Rattle.number_graph.proofs.tests.add_within.Goals as goal

pub returns-in_ok-add : goal.returns-in_ok-add
returns-in_ok-add c =
    implication_within c.args.total c.args.implications.now c.add.new.self c.args.premises.now c.args.conclusion
    c.in_ok-add.ensures.ok (c.are_below.ensures c.if-are_below.true) c.if-conclusion-total.true c.requires
