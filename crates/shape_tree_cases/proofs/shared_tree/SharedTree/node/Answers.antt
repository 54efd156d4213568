use Rattle.std.proofs.Common.{◌≡◌, refl, ◌+◌, ◌∷◌, ◌++◌, max, length, rules, arith, length-append}
use Rattle.shape_tree.specs.Heights.{IsLow}
use Rattle.shape_tree.proofs.HeightLemmas.{low_node}
use Rattle.shape_tree_cases.proofs.shared_tree.SharedTree.node.Goals as goal

pub invariant_of-tree : goal.invariant_of-tree
invariant_of-tree c =
    let left = c.args.left.items in
    let right = c.args.right.items in
    let l : c.in_ok-root.root.value.left ≡ c.args.left = search rules in
    let r : c.in_ok-root.root.value.right ≡ c.args.right = search rules in
    let i : c.in_ok-root.root.value.item ≡ c.args.item = search rules in
    let len : c.in_ok-root.root.value.len ≡ length left + 1 + length right = search rules in
    let height : c.in_ok-root.root.value.height ≡ max c.args.left.height c.args.right.height + 1 =
    search rules in
    let low = low_node _ _ _ _ c.requires.near c.height.ensures.low c.height-2.ensures.low in
    let append = length-append left (c.args.item ∷ right) in
    let sum : length (left ++ c.args.item ∷ right) ≡ length left + 1 + length right =
    omega (arith, append) in
    let all_low : IsLow (length (left ++ c.args.item ∷ right))
    (max c.args.left.height c.args.right.height + 1) = rw sum low in
    rw (l, r, i, len, height) (omega (arith, sum), refl, c.requires.near, all_low)
