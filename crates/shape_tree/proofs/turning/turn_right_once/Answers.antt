use Rattle.shape_tree.proofs.turning.turn_right_once.Goals as goal

pub returns-clause-parts : goal.returns-clause-parts
returns-clause-parts g c given low high =
    (c.in_ok-left.ensures.parts given (low, high.0), high.1)
