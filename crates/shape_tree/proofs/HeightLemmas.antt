-- Heights, numbers of items, and digits.
use Rattle.std.proofs.Common.{◌≡◌, ℕ, zero, suc, ◌+◌, ◌-◌, ◌*◌, ◌/◌, ◌^◌, ◌<◌, ◌≤◌, inl, inr, max, arith, List, length, take, drop, length-take, length-drop}
use Rattle.std.proofs.Math.Pow.{pow_mono}
use Rattle.std.proofs.lemmas.Bool.{cases_lt}
use Rattle.shape_tree.specs.Balance.{AreNear}
use Rattle.shape_tree.specs.Heights.{IsLow, IsLeastHeight}
use Rattle.shape_tree.specs.Digits.{digit_count}
use Rattle.shape_tree.proofs.DigitLemmas.{pow_back, double, some_power, below_digits}

-- a node has at least twice the leaves of the lowest tree that is two lower
pub low_power : (h k n m : ℕ) → AreNear h k → 2 ^ (h / 2) ≤ n + 1 → 2 ^ (k / 2) ≤ m + 1
    → 2 ^ ((max h k + 1) / 2) ≤ n + 1 + m + 1
low_power h k n m near left right = elim (cases_lt (max h k) 1) [
  | inl less ↦ (let none : (max h k + 1) / 2 ≡ 0 = omega (arith, less) in rw none (omega arith))
  | inr more ↦ (
      let next : (max h k + 1) / 2 ≡ suc ((max h k - 1) / 2) = omega (arith, more) in
      let twice = double ((max h k - 1) / 2) in
      let first = pow_mono {i = (max h k - 1) / 2} {j = h / 2} (omega (arith, near.0, near.1)) in
      let second = pow_mono {i = (max h k - 1) / 2} {j = k / 2} (omega (arith, near.0, near.1)) in
      rw (next, twice) (omega (arith, first, second, left, right)))
]

-- a node of two low trees whose heights are near is low
pub low_node : (h k n m : ℕ) → AreNear h k → IsLow n h → IsLow m k → IsLow (n + 1 + m) (max h k + 1)
low_node h k n m near left right =
    (omega (arith, left.0, right.0), low_power h k n m near left.1 right.1)

-- a part with no more items is no higher
not_above : (a b h k : ℕ) → b ≤ a → a < 2 ^ h → 2 ^ k ≤ 2 * b + 1 → k ≤ h
not_above a b h zero fewer below least = omega arith
not_above a b h (suc k) fewer below least =
    let twice = double k in
    let back = pow_back k h (omega (arith, twice, fewer, below, least)) in omega (arith, back)

-- a part with one item more is at most one higher
not_far : (a b h k : ℕ) → a ≤ b + 1 → 2 ^ h ≤ 2 * a + 1 → b < 2 ^ k → h ≤ k + 1
not_far a b h k more least below =
    let twice = double k in let again = double (suc k) in let some = some_power k in
    let back = pow_back h (suc (suc k)) (omega (arith, twice, again, some, more, least, below)) in
    omega (arith, back)

-- the whole is as high as its power allows
whole_least : (a b h : ℕ) → a ≤ b + 1 → b ≤ a → 2 ^ h ≤ 2 * a + 1 → a < 2 ^ h
    → 2 ^ (suc h) ≤ 2 * (a + b + 1) + 1
whole_least a b zero more fewer least below = omega (arith, below)
whole_least a b (suc h) more fewer least below =
    let twice = double h in let again = double (suc h) in
    omega (arith, twice, again, more, fewer, least)

-- two parts of least heights, with one item between them
halves : (n a b h k : ℕ) → n ≡ a + b + 1 → a ≤ b + 1 → b ≤ a → IsLeastHeight a h → IsLeastHeight b k
    → AreNear h k × IsLeastHeight n (max h k + 1)
halves n a b h k is more fewer left right =
    let low = not_above a b h k fewer left.0 right.1 in
    let high = not_far a b h k more left.1 right.0 in
    let twice = double h in
    let top : max h k + 1 ≡ suc h = omega (arith, low) in
    let whole = whole_least a b h more fewer left.1 left.0 in
    ((high, omega (arith, low)), (rw top (omega (arith, twice, is, more, left.0)), rw (top, is) whole))

-- the two halves of a list, and the item between them
pub halves_of : {X : Type 0} (xs : List X) (h k : ℕ) → 0 < length xs
    → IsLeastHeight (length (take (length xs / 2) xs)) h
    → IsLeastHeight (length (take (length xs - (length xs / 2 + 1)) (drop (length xs / 2 + 1) xs))) k
    → AreNear h k × IsLeastHeight (length xs) (max h k + 1)
halves_of xs h k some left right =
    let first : length (take (length xs / 2) xs) ≡ length xs / 2 = rw length-take (omega arith) in
    let second : length (take (length xs - (length xs / 2 + 1)) (drop (length xs / 2 + 1) xs))
    ≡ length xs - (length xs / 2 + 1) = rw (length-take, length-drop) (omega arith) in
    halves (length xs) (length xs / 2) (length xs - (length xs / 2 + 1)) h k
    (omega (arith, some)) (omega (arith, some)) (omega (arith, some))
    (rw first at left) (rw second at right)

-- a low tree is lower than twice the digits of its number of items
pub low_digits : (h n most : ℕ) → IsLow n h → n + 1 ≤ most → h + 1 ≤ 2 * digit_count most
low_digits h n most low fewer =
    let below = below_digits most in
    let back = pow_back (h / 2) (digit_count most) (omega (arith, low.1, fewer, below)) in
    omega (arith, back)

-- a tree of the least height is lower than twice the digits of its number of items
pub least_digits : (h m most : ℕ) → IsLeastHeight m h → m + 1 ≤ most → h + 1 ≤ 2 * digit_count most
least_digits h m most least fewer =
    let below = below_digits most in
    let twice = double (digit_count most) in
    let back = pow_back h (suc (digit_count most)) (omega (arith, least.1, fewer, below, twice)) in
    let some = pow_back 0 (digit_count most) (omega (arith, below, fewer)) in omega (arith, back, some)
