use Rattle.shape_tree.proofs.turning.settle_right.Goals as goal

pub returns-then-max-low-clause-parts : goal.returns-then-max-low-clause-parts
returns-then-max-low-clause-parts g c given low high =
    (low, c.in_ok-right.ensures.parts given high)
