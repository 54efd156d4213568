-- How many binary digits a number has.
use Rattle.std.specs.Prelude.{ℕ, zero, suc, ◌+◌, ◌^◌, ◌<◌, ◌≤◌, nat_le, if◌then◌else◌}

-- zero has one digit, and counting up adds a digit where the number comes to a power of two
-- that has no room in the digits so far
unfoldable pub digit_count : ℕ → ℕ
digit_count zero = 1
digit_count (suc n) =
    if nat_le (2 ^ digit_count n) (suc n) then digit_count n + 1 else digit_count n

-- the digits of a number are the least, from 1 on, whose power of two the number is below
abbrev pub DigitsAreLeast : Type 0
DigitsAreLeast =
    (n : ℕ) → (1 ≤ digit_count n) × (n < 2 ^ digit_count n)
    × ((k : ℕ) → 1 ≤ k → n < 2 ^ k → digit_count n ≤ k)
