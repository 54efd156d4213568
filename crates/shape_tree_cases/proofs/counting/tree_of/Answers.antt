use Rattle.std.proofs.Common.{rules}
use Rattle.shape_tree.proofs.PartLemmas.{kept_of_two}
use Rattle.shape_tree_cases.specs.Trees.{HasLowParts, IsLowTree}
use Rattle.shape_tree_cases.proofs.counting.tree_of.Goals as goal

pub realise-requires-clause-sound : goal.realise-requires-clause-sound
realise-requires-clause-sound c =
    let leaf : IsLowTree c.leaf-leaf.result = search rules in
    kept_of_two HasLowParts IsLowTree c.leaf-leaf.result c.leaf-leaf.result c.in_ok-shape.shape
    (λ w l i r low has. (has.1, has.2)) leaf leaf (λ given p q. c.in_ok-shape.ensures.parts given p)
