use Rattle.shape_tree.proofs.PartLemmas.{rest_parts}
use Rattle.shape_tree.proofs.splitting.concat.Goals as goal

pub returns-in_ok-whole-in-Some-clause-parts : goal.returns-in_ok-whole-in-Some-clause-parts
returns-in_ok-whole-in-Some-clause-parts g c given low high =
    let rest = rest_parts g.T.Kept.has_parts given _ _ _ c.in_ok-take_first.ensures.parts
    c.in-Some.is high in
    c.in_ok-whole-in-Some.ensures.parts given low rest
