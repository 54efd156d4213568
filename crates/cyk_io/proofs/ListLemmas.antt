-- Laws of lists.
use Rattle.std.proofs.Common.{◌≡◌, ℕ, ◌+◌, List, [], ◌∷◌, ◌++◌, drop, length, refl, arith}
use Rattle.std.proofs.lemmas.Grind.{common_steps}

-- to drop some and then more is to drop both at once
pub drop-drop : (m n : ℕ) (xs : List ℕ) → drop n (drop m xs) ≡ drop (m + n) xs
drop-drop m n xs = grind (arith, common_steps)

-- a list of no length has no items
pub nil_of_length : (xs : List ℕ) → length xs ≡ 0 → xs ≡ []
nil_of_length [] len = refl
nil_of_length (x ∷ xs) len = absurd (omega arith)

-- fronts of one length of the same list are the same, and so are the rests
pub same_fronts :
    (xs ys xs_rest ys_rest : List ℕ) → length xs ≡ length ys → xs ++ xs_rest ≡ ys ++ ys_rest
    → (xs ≡ ys) × (xs_rest ≡ ys_rest)
same_fronts [] [] xs_rest ys_rest lengths same = (refl, same)
same_fronts [] (y ∷ ys) xs_rest ys_rest lengths same = absurd (omega arith)
same_fronts (x ∷ xs) [] xs_rest ys_rest lengths same = absurd (omega arith)
same_fronts (x ∷ xs) (y ∷ ys) xs_rest ys_rest lengths same =
    let heads : x ≡ y = cc in
    let tails : xs ++ xs_rest ≡ ys ++ ys_rest = cc in
    let tail_lengths : length xs ≡ length ys = omega arith in
    let fronts = same_fronts xs ys xs_rest ys_rest tail_lengths tails in
    let front : xs ≡ ys = fronts.0 in
    ((cc), fronts.1)
