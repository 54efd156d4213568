-- States are evenly spaced: the one behind so many draws needs none of those before it.
use Rattle.std.proofs.Common.{◌≡◌, ℕ, ◌+◌, ◌*◌, ◌%◌, ◌^◌, ◌<◌, ◌∙◌, sym, ap, arith, zero, suc}
use Rattle.std.proofs.Math.Nat.{mul-suc, mod-add-mod, add-mod-mod}
use Rattle.generator.specs.Draws.{growth, next_state, state_behind}

-- one step more of any growth, under any modulus
step_more : (seed step count m : ℕ)
    → ((seed + step * count) % m + step) % m ≡ (seed + step * suc count) % m
step_more seed step count m =
    mod-add-mod (seed + step * count) m step
    ∙ ap (λ n. n % m)
    (let e : step * suc count ≡ step * count + step = mul-suc step count in omega arith)

-- the state behind so many draws is the seed and as many times the growth
pub state_behind_all : (seed count : ℕ) → seed < 2 ^ 64
    → state_behind seed count ≡ (seed + growth * count) % 2 ^ 64
state_behind_all seed zero below = omega arith
state_behind_all seed (suc count) below =
    ap next_state (state_behind_all seed count below) ∙ step_more seed growth count (2 ^ 64)

-- the sum as it is computed, each part of which wraps
pub state_from_parts : (seed number : ℕ) → seed < 2 ^ 64
    → ((seed + growth) % 2 ^ 64 + growth * number % 2 ^ 64) % 2 ^ 64 ≡ state_behind seed (number + 1)
state_from_parts seed number below =
    add-mod-mod ((seed + growth) % 2 ^ 64) (growth * number) (2 ^ 64)
    ∙ mod-add-mod (seed + growth) (2 ^ 64) (growth * number)
    ∙ ap (λ n. n % 2 ^ 64)
    (let e : growth * suc number ≡ growth * number + growth = mul-suc growth number in omega arith)
    ∙ sym (state_behind_all seed (suc number) below)
    ∙ ap (state_behind seed) (let e : suc number ≡ number + 1 = omega arith in e)
