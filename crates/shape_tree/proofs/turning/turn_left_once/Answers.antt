use Rattle.shape_tree.proofs.turning.turn_left_once.Goals as goal

pub returns-clause-parts : goal.returns-clause-parts
returns-clause-parts g c given high low =
    (high.0, c.in_ok-right.ensures.parts given (high.1, low))
