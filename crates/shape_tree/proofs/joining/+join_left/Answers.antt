use Rattle.shape_tree.proofs.ItemLemmas.{spine_left}
use Rattle.shape_tree.proofs.OpeningLemmas.{opened_items, opened_parts}
use Rattle.shape_tree.proofs.joining.+join_left.Goals as goal

pub returns-clause-items : goal.returns-clause-items
returns-clause-items g t c =
    let opened = opened_items g.T.Kept.items g.T.Kept.height_of c.args.right _ _
    c.in_ok-node.ensures.ok c.in-Node.is in
    spine_left _ _ _ _ _ _ _ _ opened c.in_ok-joined.ensures.items
    c.in_ok-settle_left.ensures.items

pub returns-clause-parts : goal.returns-clause-parts
returns-clause-parts g t c given low high =
    let both = opened_parts g.T.Kept.has_parts given _ _ _ c.in_ok-node.ensures.parts
    c.in-Node.is high in
    let joined = c.in_ok-joined.ensures.parts given low both.0 in
    c.in_ok-settle_left.ensures.parts given joined both.1
