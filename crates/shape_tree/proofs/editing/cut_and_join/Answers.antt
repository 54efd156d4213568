use Rattle.std.proofs.Common.{◌≡◌, ◌+◌, ◌*◌, ◌≤◌, length, arith, refl}
use Rattle.shape_tree.specs.Shapes.{items_of}
use Rattle.shape_tree.specs.Parts.{IsPartOfOne}
use Rattle.shape_tree.specs.Digits.{digit_count}
use Rattle.shape_tree.proofs.HeightLemmas.{low_digits, least_digits}
use Rattle.shape_tree.proofs.EditLemmas.{spliced, no_longer, few_fresh}
use Rattle.shape_tree.proofs.editing.cut_and_join.Goals as goal

pub returns-clause-items : goal.returns-clause-items
returns-clause-items g c =
    let same : c.in_ok-share.field-0 ≡ c.args.old.now = c.in_ok-share.ensures in
    let one = c.in_ok-front.ensures in
    let two = c.in_ok-back.ensures in
    spliced _ _ _ _ _ _ _ _ _ _ _ (rw same at one.items) one.len two.items two.len
    c.in_ok-middle.ensures.items c.in_ok-begun.ensures.items c.in_ok-whole.ensures.items

pub returns-clause-fresh : goal.returns-clause-fresh
returns-clause-fresh g c =
    let same : c.in_ok-share.field-0 ≡ c.args.old.now = c.in_ok-share.ensures in
    let old = length (g.T.Kept.items c.args.old.now) in
    let new = length (items_of g.T.Kept.items c.in_ok-whole.whole) in
    let most = old + new + 1 in
    let one = c.in_ok-front.ensures in
    let two = c.in_ok-back.ensures in
    let middle = c.in_ok-middle.ensures in
    let begun = c.in_ok-begun.ensures in
    let whole = c.in_ok-whole.ensures in
    let inserted = length c.args.inserted.now in
    let longer : inserted ≤ new = no_longer _ _ _ _ _ _ middle.items begun.items whole.items in
    let low = low_digits _ old most c.requires.low (omega arith) in
    let high : g.T.Kept.height_of c.in_ok-share.field-0 + 1 ≤ 2 * digit_count most = rw same low in
    let built = least_digits _ inserted most middle.height (omega (arith, longer)) in
    few_fresh _ _ _ _ _ _ _ _ _ _ _ _ _ _ _ _ _ high built
    one.fresh one.not_higher.0 one.not_higher.1 two.fresh two.not_higher.0 two.not_higher.1
    middle.fresh refl begun.fresh begun.not_higher whole.fresh

pub returns-clause-parts : goal.returns-clause-parts
returns-clause-parts g c given leaf old =
    let same : c.in_ok-share.field-0 ≡ c.args.old.now = c.in_ok-share.ensures in
    let shared : IsPartOfOne g.T.Kept.has_parts given c.in_ok-share.field-0 = rw same old in
    let one = c.in_ok-front.ensures.parts given shared in
    let two = c.in_ok-back.ensures.parts given one.1 in
    let middle = c.in_ok-middle.ensures.parts given leaf in
    let begun = c.in_ok-begun.ensures.parts given one.0 middle in
    c.in_ok-whole.ensures.parts given begun two.1
