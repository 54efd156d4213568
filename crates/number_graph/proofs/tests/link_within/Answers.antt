use Rattle.number_graph.proofs.LinkLemmas.{added_within}
use Rattle.number_graph.proofs.tests.link_within.Goals as goal

pub returns-in_ok-add : goal.returns-in_ok-add
returns-in_ok-add c =
    let adds = c.in_ok-add.ensures.ok in (
      adds.count,
      added_within c.args.links.now c.add.new.self c.args.from c.args.to adds (rw c.count-then-from-count.ensures at c.if-to-count.true) c.requires,
    )
