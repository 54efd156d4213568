use Rattle.shape_tree.proofs.turning.settle_left.Goals as goal

pub returns-then-max-low-clause-parts : goal.returns-then-max-low-clause-parts
returns-then-max-low-clause-parts g c given high low =
    (c.in_ok-left.ensures.parts given high, low)
