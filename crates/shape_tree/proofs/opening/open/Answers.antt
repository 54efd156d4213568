use Rattle.std.proofs.Common.{rules, subst}
use Rattle.shape_tree.specs.Parts.{AreParts, IsPartOfOne}
use Rattle.shape_tree.proofs.PartLemmas.{sides_are_parts}
use Rattle.shape_tree.proofs.opening.open.Goals as goal

pub returns-in-Some-clause-parts : goal.returns-in-Some-clause-parts
returns-in-Some-clause-parts g c given parts =
    let whole : IsPartOfOne g.T.Kept.has_parts given c.in-Kept.tree =
    subst (AreParts g.T.Kept.has_parts given) c.in-Kept.is parts in
    let has : g.T.Kept.has_parts c.in-Kept.tree c.in-Some.left c.in-Some.item c.in-Some.right =
    search rules in
    sides_are_parts g.T.Kept.has_parts given _ _ _ _ whole has
