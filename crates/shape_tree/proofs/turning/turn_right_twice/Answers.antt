use Rattle.shape_tree.proofs.OpeningLemmas.{opened_parts}
use Rattle.shape_tree.proofs.turning.turn_right_twice.Goals as goal

pub returns-clause-parts : goal.returns-clause-parts
returns-clause-parts g c given low high =
    let both = opened_parts g.T.Kept.has_parts given _ _ _ c.in_ok-middle.ensures.parts
    c.in-Node.is high.0 in (
      c.in_ok-close.ensures.parts given (low, both.0),
      c.in_ok-close-2.ensures.parts given (both.1, high.1),
    )
