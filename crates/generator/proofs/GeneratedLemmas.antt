-- Texts by their statements.
use Rattle.std.proofs.Common.{◌≡◌, ℕ, ◌+◌, ◌*◌, ◌-◌, ◌<◌, ◌++◌, length, get_or, zero, suc}
use Rattle.std.proofs.Common.{refl, ap, ◌∙◌, arith, below_more, length-append}
use Rattle.std.proofs.lemmas.List.{get_or_append_left, get_or-append_right}
use Rattle.generator.specs.Draws.{drawn}
use Rattle.generator.specs.Generated.{sign_of, statement_of, text_of, sign_offset}

-- the text of one statement more ends with that statement
pub text_more : (seed count : ℕ)
    → text_of seed (count + 1) ≡ text_of seed count ++ statement_of seed count
text_more seed count = ap (text_of seed) (let e : count + 1 ≡ suc count = omega arith in e)

-- each statement has ten bytes
pub ten_bytes : (seed count : ℕ) → length (text_of seed count) ≡ 10 * count
ten_bytes seed zero = refl
ten_bytes seed (suc count) =
    let both : length (text_of seed count ++ statement_of seed count) ≡ length (text_of seed count) + 10
    = length-append (text_of seed count) (statement_of seed count) in
    let before : length (text_of seed count) ≡ 10 * count = ten_bytes seed count in
    omega arith

-- the statement that comes last has its sign in its place
last_sign : (seed count : ℕ)
    → get_or (text_of seed count ++ statement_of seed count) (sign_offset count) 0
    ≡ sign_of (drawn seed (4 * count + 2))
last_sign seed count =
    get_or-append_right (text_of seed count) (statement_of seed count) (10 * count) (sign_offset count) 0
    (ten_bytes seed count) (omega arith)
    ∙ ap (λ n. get_or (statement_of seed count) n 0)
    (let five : sign_offset count - 10 * count ≡ 5 = omega arith in five)

-- each statement has its sign in its place
pub signs : (seed count number : ℕ) → number < count
    → get_or (text_of seed count) (sign_offset number) 0 ≡ sign_of (drawn seed (4 * number + 2))
signs seed zero number below = absurd (omega arith)
signs seed (suc count) number below =
    below_more (λ k. get_or (text_of seed count ++ statement_of seed count) (sign_offset k) 0
    ≡ sign_of (drawn seed (4 * k + 2))) count
    (λ k under.
    get_or_append_left (text_of seed count) (statement_of seed count) 0 (sign_offset k)
    (let len : length (text_of seed count) ≡ 10 * count = ten_bytes seed count in omega arith)
    ∙ signs seed count k under)
    (last_sign seed count) number (omega arith)
