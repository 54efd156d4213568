use Rattle.number_graph.proofs.LinkLemmas.{pushes_links}
use Rattle.number_graph.proofs.links.Links.push.Goals as goal

pub returns-clause-ok : goal.returns-clause-ok
returns-clause-ok c =
    rw (c.in_ok-push.ensures.items, c.self.view_is)
    (pushes_links c.args.self.now c.args.targets.now c.in_ok-cell.cell c.in_ok-cell.ensures)
