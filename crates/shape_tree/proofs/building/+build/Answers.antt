use Rattle.std.proofs.Common.{◌≡◌, ◌<◌, length, rules}
use Rattle.shape_tree.proofs.HeightLemmas.{halves_of}
use Rattle.shape_tree.proofs.building.+build.Goals as goal

pub returns-clause-balanced : goal.returns-clause-balanced
returns-clause-balanced g t c =
    let more : 0 < length c.args.items.now = search rules in
    let left : c.in_ok-node.node.value.left ≡ c.in_ok-left.left = search rules in
    let right : c.in_ok-node.node.value.right ≡ c.in_ok-right.right = search rules in
    let low = c.in_ok-left.ensures.height in
    let high = c.in_ok-right.ensures.height in
    let near = halves_of c.args.items.now _ _ more low high in
    rw (left, right) (c.in_ok-left.ensures.balanced, c.in_ok-right.ensures.balanced, near.0)

pub returns-clause-height : goal.returns-clause-height
returns-clause-height g t c =
    let more : 0 < length c.args.items.now = search rules in
    let left : c.in_ok-node.node.value.left ≡ c.in_ok-left.left = search rules in
    let right : c.in_ok-node.node.value.right ≡ c.in_ok-right.right = search rules in
    let low = c.in_ok-left.ensures.height in
    let high = c.in_ok-right.ensures.height in
    let near = halves_of c.args.items.now _ _ more low high in
    rw (left, right) near.1

pub returns-clause-parts : goal.returns-clause-parts
returns-clause-parts g t c given h =
    let left : c.in_ok-node.node.value.left ≡ c.in_ok-left.left = search rules in
    let right : c.in_ok-node.node.value.right ≡ c.in_ok-right.right = search rules in
    rw (left, right) (c.in_ok-left.ensures.parts given h, c.in_ok-right.ensures.parts given h)
