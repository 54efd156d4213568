use Rattle.std.proofs.Common.{◌≡◌, ◌+◌, ◌*◌, ◌≤◌, length, arith}
use Rattle.shape_tree.specs.Shapes.{items_of}
use Rattle.shape_tree.specs.Parts.{IsPartOfOne}
use Rattle.shape_tree.specs.Digits.{digit_count}
use Rattle.shape_tree.proofs.HeightLemmas.{low_digits}
use Rattle.shape_tree.proofs.editing.edit.Goals as goal

pub returns-then-inserted-eq1-clause-fresh : goal.returns-then-inserted-eq1-clause-fresh
returns-then-inserted-eq1-clause-fresh g c =
    let same : c.in_ok-share-2.field-0 ≡ c.args.old.now = c.in_ok-share-2.ensures in
    let old = length (g.T.Kept.items c.args.old.now) in
    let most = old + length (items_of g.T.Kept.items c.in_ok-replace.field-0) + 1 in
    let low = low_digits _ old most c.height-height.ensures.low (omega arith) in
    let high : g.T.Kept.height_of c.in_ok-share-2.field-0 + 1 ≤ 2 * digit_count most =
    rw same low in
    let few = c.in_ok-replace.ensures.fresh in
    omega (arith, high, few)

pub returns-then-inserted-eq1-clause-parts : goal.returns-then-inserted-eq1-clause-parts
returns-then-inserted-eq1-clause-parts g c given leaf old =
    let same : c.in_ok-share-2.field-0 ≡ c.args.old.now = c.in_ok-share-2.ensures in
    let shared : IsPartOfOne g.T.Kept.has_parts given c.in_ok-share-2.field-0 = rw same old in
    c.in_ok-replace.ensures.parts given shared
