-- The bytes of a scalar, and how many there are by the first.
use Rattle.std.proofs.Common.{inl, inr, ◌≡◌, ℕ, ◌+◌, ◌/◌, ◌%◌, ◌<◌, ◌≤◌, ◌⊎◌, [], ◌∷◌, refl, ◌∙◌, arith, lt-ltb, le-ltb}
use Rattle.std.proofs.lemmas.Bool.{cond-true, cond-false}
use Rattle.std.proofs.lemmas.Bool.Decides.{nat_tests}
use Rattle.std.proofs.lemmas.Str.{encode_ascii}
use Rattle.std.specs.Char.{IsScalar, encode_utf8}
use Rattle.spec_text.specs.Scalars.{scalar_len}
use Rattle.spec_text.specs.Laws.{HasScalarsLength}

-- a scalar of two bytes
pub encode_two : (c : ℕ) → 0x80 ≤ c → c < 0x800 →
    encode_utf8 c ≡ (192 + c / 64) ∷ (128 + c % 64) ∷ []
unfolding encode_utf8
encode_two c low high = cond-false _ _ _ (le-ltb c 128 low) ∙ cond-true _ _ _ (lt-ltb c 2048 high)

-- a scalar of three bytes
pub encode_three : (c : ℕ) → 0x800 ≤ c → c < 0x1_0000 →
    encode_utf8 c ≡ (224 + c / 4096) ∷ (128 + (c / 64) % 64) ∷ (128 + c % 64) ∷ []
unfolding encode_utf8
encode_three c low high =
    cond-false _ _ _ (le-ltb c 128 (omega arith)) ∙ cond-false _ _ _ (le-ltb c 2048 low)
    ∙ cond-true _ _ _ (lt-ltb c 65536 high)

-- a scalar of four bytes
pub encode_four : (c : ℕ) → 0x1_0000 ≤ c →
    encode_utf8 c ≡ (240 + c / 262144) ∷ (128 + (c / 4096) % 64) ∷ (128 + (c / 64) % 64) ∷ (128 + c % 64) ∷ []
unfolding encode_utf8
encode_four c low =
    cond-false _ _ _ (le-ltb c 128 (omega arith)) ∙ cond-false _ _ _ (le-ltb c 2048 (omega arith))
    ∙ cond-false _ _ _ (le-ltb c 65536 low)

scalar_below : (c : ℕ) → IsScalar c → c < 0x11_0000
scalar_below c is = grind (arith, nat_tests)

len_one : (byte : ℕ) → byte < 128 → scalar_len byte ≡ 1
len_one byte below = grind (arith, nat_tests)

len_two : (byte : ℕ) → 194 ≤ byte → byte ≤ 223 → scalar_len byte ≡ 2
len_two byte least most = grind (arith, nat_tests)

len_three : (byte : ℕ) → 224 ≤ byte → byte ≤ 239 → scalar_len byte ≡ 3
len_three byte least most = grind (arith, nat_tests)

len_four : (byte : ℕ) → 240 ≤ byte → byte ≤ 244 → scalar_len byte ≡ 4
len_four byte least most = grind (arith, nat_tests)

by_size : (c : ℕ) → c < 0x11_0000 →
    (c < 0x80) ⊎ ((0x80 ≤ c) × (c < 0x800)) ⊎ ((0x800 ≤ c) × (c < 0x1_0000)) ⊎ (0x1_0000 ≤ c)
by_size c below = grind arith

-- the first byte of a scalar tells how many bytes it has
pub has_length : HasScalarsLength
has_length c is = elim (by_size c (scalar_below c is)) [
  | inl small ↦ rw (encode_ascii c small, len_one c small) refl
  | inr rest ↦ elim rest [
    | inl two ↦
        rw (encode_two c two.0 two.1, len_two (192 + c / 64) (omega (arith, two.0)) (omega (arith, two.1))) refl
    | inr rest ↦ elim rest [
      | inl three ↦
          rw (
            encode_three c three.0 three.1,
            len_three (224 + c / 4096) (omega arith) (omega (arith, three.1)),
          ) refl
      | inr four ↦
          rw (
            encode_four c four,
            len_four (240 + c / 262144) (omega arith) (omega (arith, scalar_below c is)),
          ) refl
    ]
  ]
]
