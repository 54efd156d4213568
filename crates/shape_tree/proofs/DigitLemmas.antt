-- The number of binary digits, and powers of two.
use Rattle.std.proofs.Common.{◌≡◌, ℕ, zero, suc, ◌+◌, ◌*◌, ◌^◌, ◌<◌, ◌≤◌, inl, inr, true, false, nat_le, arith, rules}
use Rattle.std.proofs.Math.Pow.{pow_mono}
use Rattle.std.proofs.Math.Nat.{pow-succ'}
use Rattle.std.proofs.lemmas.Bool.{cases_lt}
use Rattle.shape_tree.specs.Digits.{digit_count}

-- a power that is below another has an exponent that is below
pub pow_back : (a b : ℕ) → 2 ^ a < 2 ^ b → a < b
pow_back a b below = elim (cases_lt a b) [
  | inl less ↦ less
  | inr more ↦ (let power = pow_mono {i = b} {j = a} more in omega (arith, power, below))
]

-- the next power is twice the power
pub double : (k : ℕ) → 2 ^ (suc k) ≡ 2 * 2 ^ k
double k = pow-succ' 2 k

-- a power is at least 1
pub some_power : (k : ℕ) → 1 ≤ 2 ^ k
some_power zero = omega arith
some_power (suc k) =
    let twice = double k in let some = some_power k in omega (arith, twice, some)

-- a number has at least one digit
pub some_digit : (n : ℕ) → 1 ≤ digit_count n
unfolding digit_count
some_digit zero = omega arith
some_digit (suc n) =
    let some = some_digit n in
    elim (cases_lt (suc n) (2 ^ digit_count n)) [
      | inl less ↦ (let no : nat_le (2 ^ digit_count n) (suc n) ≡ false = search rules in
          rw no some)
      | inr more ↦ (let yes : nat_le (2 ^ digit_count n) (suc n) ≡ true = search rules in
          rw yes (omega (arith, some)))
    ]

-- a number is below the power of its digits
pub below_digits : (n : ℕ) → n < 2 ^ digit_count n
unfolding digit_count
below_digits zero = omega arith
below_digits (suc n) =
    let below = below_digits n in
    let twice = double (digit_count n) in
    elim (cases_lt (suc n) (2 ^ digit_count n)) [
      | inl less ↦ (let no : nat_le (2 ^ digit_count n) (suc n) ≡ false = search rules in
          rw no less)
      | inr more ↦ (let yes : nat_le (2 ^ digit_count n) (suc n) ≡ true = search rules in
          let next : digit_count n + 1 ≡ suc (digit_count n) = omega arith in
          rw (yes, next) (omega (arith, below, twice)))
    ]

-- the power of a number's digits is at most twice the number
pub digits_reach : (n : ℕ) → 2 ^ digit_count (suc n) ≤ 2 * suc n
unfolding digit_count
digits_reach zero = omega arith
digits_reach (suc n) =
    let reach = digits_reach n in
    let twice = double (digit_count (suc n)) in
    elim (cases_lt (suc (suc n)) (2 ^ digit_count (suc n))) [
      | inl less ↦ (let no : nat_le (2 ^ digit_count (suc n)) (suc (suc n)) ≡ false =
          search rules in
          rw no (omega (arith, reach)))
      | inr more ↦ (let yes : nat_le (2 ^ digit_count (suc n)) (suc (suc n)) ≡ true =
          search rules in
          let next : digit_count (suc n) + 1 ≡ suc (digit_count (suc n)) = omega arith in
          rw (yes, next) (omega (arith, more, twice)))
    ]

-- a number between two powers has the digits of the higher
pub digits_between : (n k : ℕ) → 2 ^ k ≤ n → n < 2 ^ suc k → digit_count n ≡ suc k
digits_between zero k low high = let some = some_power k in omega (arith, some, low)
digits_between (suc n) k low high =
    let below = below_digits (suc n) in
    let reach = digits_reach n in
    let twice = double (suc k) in
    let more = pow_back k (digit_count (suc n)) (omega (arith, low, below)) in
    let less = pow_back (digit_count (suc n)) (suc (suc k)) (omega (arith, reach, high, twice)) in
    omega (arith, more, less)

-- a number has no more digits than the exponent of a power above it
pub no_more_digits : (n k : ℕ) → 1 ≤ k → n < 2 ^ k → digit_count n ≤ k
unfolding digit_count
no_more_digits zero k some below = omega (arith, some)
no_more_digits (suc n) k some below =
    let reach = digits_reach n in
    let twice = double k in
    let less = pow_back (digit_count (suc n)) (suc k) (omega (arith, reach, below, twice)) in
    omega (arith, less)
