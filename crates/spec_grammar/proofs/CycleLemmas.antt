-- Chains of steps between categories, and how long they are.
use Rattle.std.proofs.Common.{◌≡◌, ℕ, zero, suc, ◌+◌, ◌<◌, ◌≤◌, ◌⊎◌, inl, inr, List, [], ◌∷◌, ◌++◌, Bool, true, false, length, refl, sym, subst, arith, eqb}
use Rattle.std.specs.List.{IsDistinct, list_any, Contains}
use Rattle.std.specs.Cmp.{nat_eq_equiv}
use Rattle.std.proofs.lemmas.Bool.{eqb-true}
use Rattle.std.proofs.lemmas.List.{length_push}
use Rattle.std.proofs.lemmas.List.Elements.{Contains-push_cases}
use Rattle.std.proofs.lemmas.Map.Keys.{IsDistinct-push}
use Rattle.std.proofs.lemmas.Map.Steps.{length-le_from_distinct_below}
use Rattle.std.proofs.lemmas.Map.Views.{Contains-from_any}
use Rattle.spec_grammar.specs.declared.rule.Rule.{Rule}
use Rattle.spec_grammar.specs.Cycles.{StepsTo, Leads, IsAcyclic, HasChain, IsRank}
use Rattle.spec_grammar.specs.CycleLaws.{StepsLeadBelow}

module _ (rules : List Rule) where
  -- one step more at the end of a chain
  pub leads_then : (n a b c : ℕ) → Leads rules n a b → StepsTo rules b c → Leads rules (suc n) a c
  leads_then zero a b c leads step = (c, subst (λ k. StepsTo rules k c) (sym leads) step, refl)
  leads_then (suc n) a b c leads step = (leads.0, leads.1, leads_then n leads.0 b c leads.2 step)

  -- a front part of a chain is a chain
  pub shorter_chain : (m n c : ℕ) → m ≤ n → HasChain rules c n → HasChain rules c m
  shorter_chain zero n c less chain = (c, refl)
  shorter_chain (suc m) zero c less chain = absurd (omega arith)
  shorter_chain (suc m) (suc n) c less chain =
      let first = chain.1 in
      let behind = shorter_chain m n first.0 (omega arith) (chain.0, first.2) in
      (behind.0, (first.0, first.1, behind.1))

  -- no chain is longer than the rank
  pub chain_within_rank : (c m n : ℕ) → IsRank rules c m → HasChain rules c n → n ≤ m
  chain_within_rank c m n rank chain = elim (within_or_longer n m) [
    | inl within ↦ within
    | inr longer ↦ absurd (rank.1 (shorter_chain (suc m) n c longer chain))
  ]
    where
      within_or_longer : (n m : ℕ) → (n ≤ m) ⊎ (suc m ≤ n)
      within_or_longer n m = grind arith

  -- a chain goes on behind a step
  pub step_lengthens : (a b n : ℕ) → StepsTo rules a b → HasChain rules b n → HasChain rules a (suc n)
  step_lengthens a b n step chain = (chain.0, (b, step, chain.1))

-- a category that another steps to is of lower rank
pub step_lowers_rank :
    (rules : List Rule) (a b m n : ℕ)
    → StepsTo rules a b → IsRank rules a m → IsRank rules b n → n < m
step_lowers_rank rules a b m n step above below =
    chain_within_rank rules a m (suc n) above (step_lengthens rules a b n step below.0)

-- a category has one rank at most
pub rank_is_one : (rules : List Rule) (c m n : ℕ) → IsRank rules c m → IsRank rules c n → m ≡ n
rank_is_one rules c m n first second =
    omega (arith, chain_within_rank rules c m n first second.0, chain_within_rank rules c n m second first.0)

module _ (rules : List Rule) (count : ℕ) (below : StepsLeadBelow rules count) (acyclic : IsAcyclic rules) where
  -- the category is below the count, and a chain of one step or more leads from it to the last one
  abbrev IsPassed : ℕ → ℕ → Type 0
  IsPassed last a = (a < count) × ((n : ℕ) × Leads rules (suc n) a last)

  module _ (passed : List ℕ) (last : ℕ) (is : last < count) (distinct : IsDistinct eqb passed) (each : (a : ℕ) → Contains passed a → IsPassed last a) where
    -- a chain does not come back to a category that it has passed
    not_met : (b : Bool) → list_any (eqb last) passed ≡ b → b ≡ false
    not_met true met =
        let own = each last (Contains-from_any eqb-true last passed met) in
        absurd (acyclic last own.1)
    not_met false met = refl

    -- with the last one the categories of the chain are still distinct
    distinct_more : IsDistinct eqb (passed ++ last ∷ [])
    distinct_more =
        IsDistinct-push nat_eq_equiv passed last distinct
        (not_met (list_any (eqb last) passed) refl)

    -- and still below the count, so there are at most so many
    few_passed : length passed < count
    few_passed =
        let all = length-le_from_distinct_below (passed ++ last ∷ []) count distinct_more (λ a met. below_count a (Contains-from_any eqb-true a (passed ++ last ∷ []) met)) in
        omega (arith, all, length_push passed last)
      where
        below_count : (a : ℕ) → Contains (passed ++ last ∷ []) a → a < count
        below_count a has = elim (Contains-push_cases passed last a has) [
          | inl old ↦ (each a old).0
          | inr same ↦ let P : ℕ → Type 0 = λ k. k < count in subst P same is
        ]

    -- a step on, each of them is passed
    passed_more : (next : ℕ) → StepsTo rules last next → (a : ℕ) → Contains (passed ++ last ∷ []) a → IsPassed next a
    passed_more next step a has = elim (Contains-push_cases passed last a has) [
      | inl old ↦
          let own = each a old in
          let leads = own.1 in
          (own.0, (suc leads.0, leads_then rules (suc leads.0) a last next leads.1 step))
      | inr same ↦
          let P : ℕ → Type 0 = λ k. IsPassed next k in
          subst P same (is, (0, (next, step, refl)))
    ]

  -- the categories of a chain so far are not met again, so the chain ends before the count
  chain_ends :
      (n : ℕ) (passed : List ℕ) (last : ℕ)
      → last < count → IsDistinct eqb passed
      → ((a : ℕ) → Contains passed a → IsPassed last a)
      → HasChain rules last n → count ≤ n + length passed → ⊥
  chain_ends zero passed last is distinct each chain enough =
      omega (arith, few_passed passed last is distinct each, enough)
  chain_ends (suc n) passed last is distinct each chain enough =
      let first = chain.1 in
      chain_ends n (passed ++ last ∷ []) first.0 (below last first.0 first.1)
      (distinct_more passed last is distinct each) (passed_more passed last is distinct each first.0 first.1)
      (chain.0, first.2) (omega (arith, enough, length_push passed last))

  -- so no chain of categories below the count has so many steps
  pub chain_is_short : (c : ℕ) → c < count → HasChain rules c count → ⊥
  unfolding IsDistinct
  chain_is_short c is chain =
      chain_ends count [] c is tt (λ a has. absurd (omega (arith, has.1))) chain (omega arith)
