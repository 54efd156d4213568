use Rattle.shape_tree.proofs.ItemLemmas.{spine_right}
use Rattle.shape_tree.proofs.OpeningLemmas.{opened_items, opened_parts}
use Rattle.shape_tree.proofs.joining.+join_right.Goals as goal

pub returns-clause-items : goal.returns-clause-items
returns-clause-items g t c =
    let opened = opened_items g.T.Kept.items g.T.Kept.height_of c.args.left _ _
    c.in_ok-node.ensures.ok c.in-Node.is in
    spine_right _ _ _ _ _ _ _ _ opened c.in_ok-joined.ensures.items
    c.in_ok-settle_right.ensures.items

pub returns-clause-parts : goal.returns-clause-parts
returns-clause-parts g t c given low high =
    let both = opened_parts g.T.Kept.has_parts given _ _ _ c.in_ok-node.ensures.parts
    c.in-Node.is low in
    let joined = c.in_ok-joined.ensures.parts given both.1 high in
    c.in_ok-settle_right.ensures.parts given both.0 joined
