use Rattle.std.proofs.Common.{◌≡◌, ◌<◌, ◌^◌, ◌∷◌, length, rules, arith, subst, length-append}
use Rattle.std.specs.List.{All}
use Rattle.std.proofs.lemmas.List.Elements.{All-head, All-tail}
use Rattle.shape_tree.specs.Parts.{AllKept}
use Rattle.shape_tree.specs.Shapes.{items_of}
use Rattle.shape_tree.proofs.PartLemmas.{kept_still}
use Rattle.shape_tree.proofs.ItemLemmas.{all_behind, all_still}
use Rattle.shape_tree.proofs.making.+realise.Goals as goal

pub node-requires-clause-item : goal.node-requires-clause-item
node-requires-clause-item g t c =
    let same : c.into_inner-node.result ≡ c.in-Fresh.node.value = search rules in
    let node = c.in-Fresh.node.value in
    let Takes = g.M.Maker.takes c.args.maker.now in
    let items = subst (λ s. All Takes (items_of g.T.Kept.items s)) c.in-Fresh.is c.requires.takes in
    let behind = all_behind Takes (items_of g.T.Kept.items node.left) _ items in
    let item = All-head Takes node.item (items_of g.T.Kept.items node.right) behind in
    let still = (c.realise-in-Fresh.ensures.same_items node.item).0
    ((c.realise.ensures.same_items node.item).0 item) in
    rw same still

pub realise-requires-in-Fresh : goal.realise-requires-in-Fresh
realise-requires-in-Fresh g t c κs within =
    let same : c.into_inner-node.result ≡ c.in-Fresh.node.value = search rules in
    let node = c.in-Fresh.node.value in
    let left = items_of g.T.Kept.items node.left in
    let right = items_of g.T.Kept.items node.right in
    let new = c.realise.new.maker in
    let IsSound = g.M.Maker.is_sound c.args.maker.now in
    let Takes = g.M.Maker.takes c.args.maker.now in
    let both = subst (AllKept IsSound) c.in-Fresh.is c.requires.sound in
    let side : AllKept IsSound c.into_inner-node.result.right = search rules in
    let sound : AllKept (g.M.Maker.is_sound new) c.into_inner-node.result.right =
    kept_still _ _ _ c.realise.ensures.same_sound side in
    let whole = subst (λ s. length (items_of g.T.Kept.items s) < 2 ^ 31) c.in-Fresh.is
    c.requires.fits in
    let sum = length-append left (node.item ∷ right) in
    let fits : length (items_of g.T.Kept.items c.into_inner-node.result.right) < 2 ^ 31 =
    rw same (omega (arith, whole, sum)) in
    let items = subst (λ s. All Takes (items_of g.T.Kept.items s)) c.in-Fresh.is c.requires.takes in
    let rest = All-tail Takes node.item right (all_behind Takes left _ items) in
    let still = all_still Takes (g.M.Maker.takes new) _ c.realise.ensures.same_items rest in
    let takes : All (g.M.Maker.takes new) (items_of g.T.Kept.items c.into_inner-node.result.right) =
    rw same still in (
      search rules,
      (search rules, (search rules, (search rules, (search rules, (fits, (sound, takes)))))),
    )
