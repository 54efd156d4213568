use Rattle.shape_tree.proofs.OpeningLemmas.{opened_parts}
use Rattle.shape_tree.proofs.PartLemmas.{rest_parts}
use Rattle.shape_tree.proofs.splitting.+take_first.Goals as goal

pub returns-in-None-clause-parts : goal.returns-in-None-clause-parts
returns-in-None-clause-parts g t c given whole =
    (opened_parts g.T.Kept.has_parts given _ _ _ c.in_ok-open.ensures.parts c.in-Node.is whole).1

pub returns-clause-parts : goal.returns-clause-parts
returns-clause-parts g t c given whole =
    let both = opened_parts g.T.Kept.has_parts given _ _ _ c.in_ok-open.ensures.parts
    c.in-Node.is whole in
    let rest = rest_parts g.T.Kept.has_parts given _ _ _ c.in_ok-take_first-in-Node.ensures.parts
    c.in-Some.is both.0 in
    c.in_ok-rest-in-Some.ensures.parts given rest both.1
