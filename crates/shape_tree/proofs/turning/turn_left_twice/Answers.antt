use Rattle.shape_tree.proofs.OpeningLemmas.{opened_parts}
use Rattle.shape_tree.proofs.turning.turn_left_twice.Goals as goal

pub returns-clause-parts : goal.returns-clause-parts
returns-clause-parts g c given high low =
    let both = opened_parts g.T.Kept.has_parts given _ _ _ c.in_ok-middle.ensures.parts
    c.in-Node.is high.1 in (
      c.in_ok-close.ensures.parts given (high.0, both.0),
      c.in_ok-close-2.ensures.parts given (both.1, low),
    )
