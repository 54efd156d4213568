-- Sets of bytes, byte by byte.
use Rattle.std.proofs.Common.{◌≡◌, ℕ, zero, suc, ◌+◌, List, [], ◌∷◌, ◌++◌, Bool, true, false, ◌&&◌, cond, refl, sym, ◌∙◌, ap, arith}
use Rattle.std.specs.List.{filter, range_with_len}
use Rattle.std.proofs.lemmas.List.Elements.{filter-append}

-- numbers in a row, and one more
range_more : (n a : ℕ) → range_with_len a (suc n) ≡ range_with_len a n ++ (a + n) ∷ []
range_more zero a = ap (λ (z : ℕ). z ∷ []) (omega arith)
range_more (suc n) a =
    let e : a + 1 + n ≡ a + suc n = omega arith in
    ap (λ (z : List ℕ). a ∷ z) (range_more n (a + 1) ∙ ap (λ (z : ℕ). range_with_len (a + 1) n ++ z ∷ []) e)

-- of one byte, what passes both tests
both_tests : (k t : ℕ → Bool) (b : ℕ) (kb tb : Bool) → k b ≡ kb → t b ≡ tb →
    filter k (cond tb (b ∷ []) []) ≡ cond (tb && kb) (b ∷ []) []
both_tests k t b true true is_k is_t = ap (λ (z : Bool). cond z (b ∷ []) []) is_k
both_tests k t b false true is_k is_t = ap (λ (z : Bool). cond z (b ∷ []) []) is_k
both_tests k t b kb false is_k is_t = refl

-- one byte more is tested
pub filter_one_more : (k t : ℕ → Bool) (n b : ℕ) (holds : Bool) → n ≡ b → holds ≡ (t b && k b) →
    filter k (filter t (range_with_len 0 n)) ++ cond holds (b ∷ []) [] ≡ filter k (filter t (range_with_len 0 (n + 1)))
filter_one_more k t n b holds same is =
    let up : n + 1 ≡ suc n = omega arith in
    let last : 0 + n ≡ b = omega (arith, same) in
    let cut : range_with_len 0 (n + 1) ≡ range_with_len 0 n ++ b ∷ [] =
    ap (range_with_len 0) up ∙ range_more n 0 ∙ ap (λ (z : ℕ). range_with_len 0 n ++ z ∷ []) last in
    let inner : filter t (range_with_len 0 n ++ b ∷ []) ≡ filter t (range_with_len 0 n) ++ cond (t b) (b ∷ []) [] =
    filter-append t (range_with_len 0 n) (b ∷ []) in
    let outer : filter k (filter t (range_with_len 0 n) ++ cond (t b) (b ∷ []) [])
    ≡ filter k (filter t (range_with_len 0 n)) ++ filter k (cond (t b) (b ∷ []) []) =
    filter-append k (filter t (range_with_len 0 n)) (cond (t b) (b ∷ []) []) in
    ap (λ (z : Bool). filter k (filter t (range_with_len 0 n)) ++ cond z (b ∷ []) []) is
    ∙ ap (λ (z : List ℕ). filter k (filter t (range_with_len 0 n)) ++ z) (sym (both_tests k t b (k b) (t b) refl refl))
    ∙ sym outer ∙ ap (filter k) (sym inner) ∙ ap (λ (z : List ℕ). filter k (filter t z)) (sym cut)
