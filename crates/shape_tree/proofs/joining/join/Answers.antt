use Rattle.shape_tree.proofs.joining.join.Goals as goal

pub returns-then-height-clause-parts : goal.returns-then-height-clause-parts
returns-then-height-clause-parts g c given low high =
    c.in_ok-close.ensures.parts given (c.in_ok-node.ensures.parts given low high)

pub returns-clause-parts : goal.returns-clause-parts
returns-clause-parts g c given low high =
    c.in_ok-close-2.ensures.parts given (c.in_ok-node-2.ensures.parts given low high)
