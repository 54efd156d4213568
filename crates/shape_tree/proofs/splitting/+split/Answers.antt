use Rattle.std.proofs.Common.{◌≡◌, subst, sym}
use Rattle.shape_tree.specs.Parts.{IsPartOfOne}
use Rattle.shape_tree.specs.Openings.{AreOpenedParts}
use Rattle.shape_tree.proofs.OpeningLemmas.{opened_parts}
use Rattle.shape_tree.proofs.splitting.+split.Goals as goal

-- The kept trees of a side that is cut are those that the call on it speaks of;
-- those of the other side go with it, and a leaf stands in both parts.

pub returns-then-at-before-clause-parts : goal.returns-then-at-before-clause-parts
returns-then-at-before-clause-parts g t c given whole =
    let both = opened_parts g.T.Kept.has_parts given _ _ _ c.in_ok-tree.ensures.parts
    c.in-Node.is whole in
    let cut = c.in_ok-first-in-Node.ensures.parts given both.0 in
    (cut.0, c.in_ok-rest-in-Node.ensures.parts given cut.1 both.1)

pub returns-in_ok-share-in-Leaf-clause-parts : goal.returns-in_ok-share-in-Leaf-clause-parts
returns-in_ok-share-in-Leaf-clause-parts g t c given whole =
    let leaf = subst (λ o. AreOpenedParts g.T.Kept.has_parts given o) c.in-Leaf.is
    (c.in_ok-tree.ensures.parts given whole) in
    let same : c.in_ok-share-in-Leaf.field-0 ≡ c.in-Leaf.tree = c.in_ok-share-in-Leaf.ensures in
    (subst (IsPartOfOne g.T.Kept.has_parts given) (sym same) leaf, leaf)

pub returns-in_ok-front-in-Node-clause-parts : goal.returns-in_ok-front-in-Node-clause-parts
returns-in_ok-front-in-Node-clause-parts g t c given whole =
    let both = opened_parts g.T.Kept.has_parts given _ _ _ c.in_ok-tree.ensures.parts
    c.in-Node.is whole in
    let cut = c.in_ok-first-in-Node-2.ensures.parts given both.1 in
    (c.in_ok-front-in-Node.ensures.parts given both.0 cut.0, cut.1)
