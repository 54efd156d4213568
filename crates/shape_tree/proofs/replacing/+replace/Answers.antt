use Rattle.std.proofs.Common.{◌≡◌, ◌+◌, ◌-◌, suc, length, rules}
use Rattle.shape_tree.specs.Shapes.{items_of}
use Rattle.shape_tree.proofs.OpeningLemmas.{opened_items, opened_parts}
use Rattle.shape_tree.proofs.EditLemmas.{replaced_root, replaced_right}
use Rattle.shape_tree.proofs.replacing.+replace.Goals as goal

pub returns-then-at-before-clause-parts : goal.returns-then-at-before-clause-parts
returns-then-at-before-clause-parts g t c given whole =
    let both = opened_parts g.T.Kept.has_parts given _ _ _ c.in_ok-node.ensures.parts
    c.in-Node.is whole in
    c.in_ok-close.ensures.parts given (c.in_ok-left.ensures.parts given both.0, both.1)

pub returns-then-at-before-2-clause-items : goal.returns-then-at-before-2-clause-items
returns-then-at-before-2-clause-items g t c =
    let opened = opened_items g.T.Kept.items g.T.Kept.height_of c.args.whole _ _
    c.in_ok-node.ensures.ok c.in-Node.is in
    let here : c.args.at ≡ length (items_of g.T.Kept.items c.in-Node.node.left) = search rules in
    replaced_root _ _ _ _ _ _ _ opened here c.in_ok-close-2.ensures.items

pub returns-then-at-before-2-clause-parts : goal.returns-then-at-before-2-clause-parts
returns-then-at-before-2-clause-parts g t c given whole =
    let both = opened_parts g.T.Kept.has_parts given _ _ _ c.in_ok-node.ensures.parts
    c.in-Node.is whole in
    c.in_ok-close-2.ensures.parts given both

pub returns-clause-items : goal.returns-clause-items
returns-clause-items g t c =
    let opened = opened_items g.T.Kept.items g.T.Kept.height_of c.args.whole _ _
    c.in_ok-node.ensures.ok c.in-Node.is in
    let before = length (items_of g.T.Kept.items c.in-Node.node.left) in
    let count : c.len-before.result ≡ before = search rules in
    let there : c.args.at ≡ before + suc (c.args.at - c.len-before.result - 1) = search rules in
    replaced_right _ _ _ _ _ _ _ _ _ opened there c.in_ok-right.ensures.items
    c.in_ok-close-3.ensures.items

pub returns-clause-parts : goal.returns-clause-parts
returns-clause-parts g t c given whole =
    let both = opened_parts g.T.Kept.has_parts given _ _ _ c.in_ok-node.ensures.parts
    c.in-Node.is whole in
    c.in_ok-close-3.ensures.parts given (both.0, c.in_ok-right.ensures.parts given both.1)
