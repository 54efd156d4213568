-- Facts of which it can be told whether they are so, and the least number of which one is so.
use Rattle.std.proofs.Common.{◌≡◌, ℕ, zero, suc, ◌<◌, ◌≤◌, ◌⊎◌, inl, inr, sym, subst, arith, Bool}
use Rattle.std.specs.Prelude.{IsTrue}
use Rattle.spec_trees.specs.OrderLaws.{IsStrictOrder}
use Rattle.spec_trees.proofs.FirstTreeLemmas.{below_same_above}

-- the fact is so, or it is not
abbrev pub IsToldOf : Type 0 → Type 0
IsToldOf P = P ⊎ (P → ⊥)

-- two facts that are told of are told of together
pub told_both : (P Q : Type 0) → IsToldOf P → IsToldOf Q → IsToldOf (P × Q)
told_both P Q (inl p) (inl q) = inl (p, q)
told_both P Q (inr none) q = inr (λ both. none both.0)
told_both P Q p (inr none) = inr (λ both. none both.1)

-- a number is below another, or it is not
pub below_or_not : (m n : ℕ) → (m < n) ⊎ (n ≤ m)
below_or_not m n = grind arith

-- of two facts that are told of it is told whether one is so
pub told_either : (P Q : Type 0) → IsToldOf P → IsToldOf Q → IsToldOf (P ⊎ Q)
told_either P Q (inl p) q = inl (inl p)
told_either P Q (inr none) (inl q) = inl (inr q)
told_either P Q (inr none) (inr neither) = inr (λ either. elim either [
  | inl p ↦ none p
  | inr q ↦ neither q
])

-- numbers are the same, or they are not
pub told_equal : (m n : ℕ) → IsToldOf (m ≡ n)
told_equal m n = elim (below_same_above m n) [
  | inl below ↦ inr (λ same. omega (arith, below, same))
  | inr (inl same) ↦ inl same
  | inr (inr above) ↦ inr (λ same. omega (arith, above, same))
]

-- one is below the other, or it is not
pub told_less : (m n : ℕ) → IsToldOf (m < n)
told_less m n = elim (below_same_above m n) [
  | inl below ↦ inl below
  | inr (inl same) ↦ inr (λ less. omega (arith, less, same))
  | inr (inr above) ↦ inr (λ less. omega (arith, less, above))
]

-- a number below the next one is below this one, or this one
below_or_last : (n k : ℕ) → k < suc n → (k < n) ⊎ (n ≡ k)
below_or_last n k below = grind arith

module _ (P : ℕ → Type 0) (told : (k : ℕ) → IsToldOf (P k)) where
  -- the least number of which it is so
  abbrev pub HasLeast : Type 0
  HasLeast = (k : ℕ) × P k × ((m : ℕ) → m < k → P m → ⊥)

  -- below a number there is a least one of which it is so, or there is none
  pub least_or_none : (n : ℕ) → HasLeast ⊎ ((k : ℕ) → k < n → P k → ⊥)
  least_or_none zero = inr (λ k below. absurd (omega (arith, below)))
  least_or_none (suc n) = elim (least_or_none n) [
    | inl least ↦ inl least
    | inr none ↦ here none (told n)
  ]
    where
      here :
          ((k : ℕ) → k < n → P k → ⊥) → IsToldOf (P n)
          → HasLeast ⊎ ((k : ℕ) → k < suc n → P k → ⊥)
      here none (inl is) = inl (n, is, none)
      here none (inr not_it) = inr (λ k below. elim (below_or_last n k below) [
        | inl less ↦ none k less
        | inr last ↦ subst (λ m. P m → ⊥) last not_it
      ])

  -- some number, so a least one
  pub least : (k : ℕ) → P k → HasLeast
  least k is = elim (least_or_none (suc k)) [
    | inl has ↦ has
    | inr none ↦ absurd (none k (omega arith) is)
  ]

  -- it is told whether there is one below a number
  pub told_below : (n : ℕ) → IsToldOf ((k : ℕ) × (k < n) × P k)
  told_below zero = inr (λ x. absurd (omega (arith, x.1)))
  told_below (suc n) = elim (told_below n) [
    | inl x ↦ inl (x.0, omega (arith, x.1), x.2)
    | inr none ↦ here none (told n)
  ]
    where
      here :
          ((k : ℕ) × (k < n) × P k → ⊥) → IsToldOf (P n)
          → IsToldOf ((k : ℕ) × (k < suc n) × P k)
      here none (inl is) = inl (n, omega arith, is)
      here none (inr not_it) = inr (λ x. elim (below_or_last n x.0 x.1) [
        | inl less ↦ none (x.0, less, x.2)
        | inr last ↦ not_it (subst P (sym last) x.2)
      ])

module _ (is_lesser : ℕ → ℕ → Bool) (order : IsStrictOrder is_lesser) (P : ℕ → Type 0) (told : (k : ℕ) → IsToldOf (P k)) where
  -- of the numbers below n of which it is so, one is the least in this order
  abbrev pub HasLeastBelow : ℕ → Type 0
  HasLeastBelow n =
      (k : ℕ) × (k < n) × P k × ((m : ℕ) → m < n → P m → IsTrue (is_lesser m k) → ⊥)

  -- and there is one, or none of which it is so
  pub least_below_or_none : (n : ℕ) → HasLeastBelow n ⊎ ((k : ℕ) → k < n → P k → ⊥)
  least_below_or_none zero = inr (λ k below. absurd (omega (arith, below)))
  least_below_or_none (suc n) = elim (least_below_or_none n) [
    | inl least ↦ inl (compared least (told n))
    | inr none ↦ alone none (told n)
  ]
    where
      -- a number below the next one is below this one, or is this one
      alone :
          ((k : ℕ) → k < n → P k → ⊥) → IsToldOf (P n)
          → HasLeastBelow (suc n) ⊎ ((k : ℕ) → k < suc n → P k → ⊥)
      alone none (inl is) = inl (
        n,
        omega arith,
        is,
        (λ m below own lesser. elim (below_or_last n m below) [
          | inl less ↦ none m less own
          | inr last ↦ order.never n (subst (λ k. IsTrue (is_lesser k n)) (sym last) lesser)
        ]),
      )
      alone none (inr not_it) = inr (λ k below. elim (below_or_last n k below) [
        | inl less ↦ none k less
        | inr last ↦ subst (λ m. P m → ⊥) last not_it
      ])

      compared : HasLeastBelow n → IsToldOf (P n) → HasLeastBelow (suc n)
      compared least (inr not_it) = (
        least.0,
        omega (arith, least.1),
        least.2,
        (λ m below own. elim (below_or_last n m below) [
          | inl less ↦ least.3 m less own
          | inr last ↦ absurd (not_it (subst P (sym last) own))
        ]),
      )
      compared least (inl is) = elim (order.apart n least.0) [
        | inl same ↦ absurd (omega (arith, same, least.1))
        | inr (inl sooner) ↦ (
          n,
          omega arith,
          is,
          (λ m below own lesser. elim (below_or_last n m below) [
            | inl less ↦ least.3 m less own (order.chain m n least.0 lesser sooner)
            | inr last ↦ order.never n (subst (λ k. IsTrue (is_lesser k n)) (sym last) lesser)
          ]),
        )
        | inr (inr later) ↦ (
          least.0,
          omega (arith, least.1),
          least.2,
          (λ m below own lesser. elim (below_or_last n m below) [
            | inl less ↦ least.3 m less own lesser
            | inr last ↦
                order.never least.0
                (order.chain least.0 n least.0 later (subst (λ k. IsTrue (is_lesser k least.0)) (sym last) lesser))
          ]),
        )
      ]

  -- there is one, as there is some number
  pub least_below : (n k : ℕ) → k < n → P k → HasLeastBelow n
  least_below n k below is = elim (least_below_or_none n) [
    | inl has ↦ has
    | inr none ↦ absurd (none k below is)
  ]
