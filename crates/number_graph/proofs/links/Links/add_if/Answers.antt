use Rattle.number_graph.proofs.LinkLemmas.{adds_where}
use Rattle.number_graph.proofs.links.Links.add_if.Goals as goal

pub returns-in_ok-add-clause-ok : goal.returns-in_ok-add-clause-ok
returns-in_ok-add-clause-ok c =
    adds_where c.args.self.now c.add.new.self c.args.from c.args.to c.args.test c.if-test.true c.in_ok-add.ensures.ok
