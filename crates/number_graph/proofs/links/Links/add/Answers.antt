use Rattle.number_graph.proofs.LinkLemmas.{adds_link}
use Rattle.number_graph.proofs.links.Links.add.Goals as goal

pub returns-clause-ok : goal.returns-clause-ok
returns-clause-ok c = rw c.self.view_is (adds_link c.args.self.now c.args.from c.args.to c.index_mut.result.now
    c.insert.new.self c.requires (rw c.self.view_is at c.index_mut.ensures.value) c.in_ok-insert.ensures.ok)
