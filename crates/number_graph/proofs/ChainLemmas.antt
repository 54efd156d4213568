-- Chains of links, and numbers that reach themselves.
use Rattle.std.proofs.Common.{◌≡◌, ℕ, zero, suc, ◌+◌, ◌<◌, ◌≤◌, ◌⊎◌, inl, inr, List, [], ◌∷◌, ◌++◌, Bool, true, false, length, refl, sym, subst, arith, eqb}
use Rattle.std.specs.List.{IsDistinct, list_any, Contains}
use Rattle.std.specs.Cmp.{nat_eq_equiv}
use Rattle.std.proofs.lemmas.Bool.{eqb-true}
use Rattle.std.proofs.lemmas.List.{length_push}
use Rattle.std.proofs.lemmas.List.Elements.{Contains-push_cases}
use Rattle.std.proofs.lemmas.Map.Keys.{IsDistinct-push}
use Rattle.std.proofs.lemmas.Map.Steps.{length-le_from_distinct_below}
use Rattle.std.proofs.lemmas.Map.Views.{Contains-from_any}
use Rattle.number_graph.specs.Graphs.{HasLink, ReachesBy, stay, step, IsOnCycle}
use Rattle.number_graph.specs.Chains.{HasLinkChain, IsHeight, LeadsToCycle}
use Rattle.number_graph.proofs.ReachLemmas.{reaches_on}

module _ (links : List (List ℕ)) where
  -- a front part of a chain is a chain
  pub shorter_chain : (j k n : ℕ) → j ≤ k → HasLinkChain links n k → HasLinkChain links n j
  shorter_chain zero k n less chain = (n, refl)
  shorter_chain (suc j) zero n less chain = absurd (omega arith)
  shorter_chain (suc j) (suc k) n less chain =
      let first = chain.1 in
      let behind = shorter_chain j k first.0 (omega arith) (chain.0, first.2) in
      (behind.0, (first.0, first.1, behind.1))

  -- a chain goes on behind a link
  pub link_lengthens : (m n k : ℕ) → HasLink links m n → HasLinkChain links n k → HasLinkChain links m (suc k)
  link_lengthens m n k link chain = (chain.0, (n, link, chain.1))

  -- a number that is linked to one from which links lead to a cycle leads there too
  linked_leads : (m n : ℕ) → HasLink links m n → LeadsToCycle links n → LeadsToCycle links m
  linked_leads m n link leads =
      (leads.0, reaches_on (HasLink links) m n leads.0 (step stay link) leads.1, leads.2)

  -- a number that reaches another is the other, or is linked to one that reaches it
  first_step :
      (m n : ℕ) → ReachesBy (HasLink links) m n
      → (m ≡ n) ⊎ ((l : ℕ) × HasLink links m l × ReachesBy (HasLink links) l n)
  first_step m n stay = inl refl
  first_step m n (step {b = k} before last) = elim (first_step m k before) [
    | inl same ↦
        let P : ℕ → Type 0 = λ i. HasLink links i n in
        inr (n, subst P (sym same) last, stay)
    | inr (l, link, reaches) ↦ inr (l, link, step reaches last)
  ]

  -- a number from which links lead to a cycle is linked to one from which they do
  leads_on : (n : ℕ) → LeadsToCycle links n → (m : ℕ) × HasLink links n m × LeadsToCycle links m
  leads_on n (m, reaches, on) = elim (first_step n m reaches) [
    | inr (l, link, behind) ↦ (l, link, (m, behind, on))
    | inl same ↦
        let P : ℕ → Type 0 = λ i. HasLink links i on.0 in
        (on.0, subst P (sym same) on.1, (m, on.2, on))
  ]

  -- where links lead to a cycle, chains have any length
  pub any_length : (k n : ℕ) → LeadsToCycle links n → HasLinkChain links n k
  any_length zero n leads = (n, refl)
  any_length (suc k) n leads =
      let on = leads_on n leads in
      link_lengthens n on.0 k on.1 (any_length k on.0 on.2)

  -- so a number with a height does not lead to a cycle
  pub height_leads_to_none : (n height : ℕ) → IsHeight links n height → LeadsToCycle links n → ⊥
  height_leads_to_none n height is leads = is.1 (any_length (suc height) n leads)

  -- and it does not reach itself
  pub height_is_on_none : (n height : ℕ) → IsHeight links n height → IsOnCycle links n → ⊥
  height_is_on_none n height is on = height_leads_to_none n height is (n, stay, on)

  -- a number has one height at most
  pub height_is_one : (n h k : ℕ) → IsHeight links n h → IsHeight links n k → h ≡ k
  height_is_one n h k first second = elim (which h k) [
    | inl (inl less) ↦ absurd (first.1 (shorter_chain (suc h) k n less second.0))
    | inl (inr more) ↦ absurd (second.1 (shorter_chain (suc k) h n more first.0))
    | inr same ↦ same
  ]
    where
      which : (h k : ℕ) → ((suc h ≤ k) ⊎ (suc k ≤ h)) ⊎ (h ≡ k)
      which h k = grind arith

module _ (links : List (List ℕ)) (total : ℕ) (Lasts : ℕ → Type 0)
    (goes_on : (n : ℕ) → Lasts n → (m : ℕ) × HasLink links n m × Lasts m)
    (below : (n : ℕ) → Lasts n → n < total) where
  -- the number is below the total, and a chain of one link or more leads from it to the last one
  abbrev IsPassed : ℕ → ℕ → Type 0
  IsPassed last a = (a < total) × ((b : ℕ) × HasLink links a b × ReachesBy (HasLink links) b last)

  -- a link on, each of them is passed
  passed_more :
      (passed : List ℕ) (last next : ℕ)
      → last < total → HasLink links last next → ((a : ℕ) → Contains passed a → IsPassed last a)
      → (a : ℕ) → Contains (passed ++ last ∷ []) a → IsPassed next a
  passed_more passed last next is link each a has = elim (Contains-push_cases passed last a has) [
    | inl old ↦
        let own = each a old in
        (own.0, (own.1.0, own.1.1, step own.1.2 link))
    | inr same ↦
        let P : ℕ → Type 0 = λ k. IsPassed next k in
        subst P same (is, (next, link, stay))
  ]

  -- distinct numbers that are passed, and the last one, are at most so many
  few_passed :
      (passed : List ℕ) (last : ℕ)
      → last < total → IsDistinct eqb passed → ((a : ℕ) → Contains passed a → IsPassed last a)
      → list_any (eqb last) passed ≡ false → length passed < total
  few_passed passed last is distinct each new =
      let all = length-le_from_distinct_below (passed ++ last ∷ []) total
      (IsDistinct-push nat_eq_equiv passed last distinct new)
      (λ a met. below_total a (Contains-from_any eqb-true a (passed ++ last ∷ []) met)) in
      omega (arith, all, length_push passed last)
    where
      below_total : (a : ℕ) → Contains (passed ++ last ∷ []) a → a < total
      below_total a has = elim (Contains-push_cases passed last a has) [
        | inl old ↦ (each a old).0
        | inr same ↦ let P : ℕ → Type 0 = λ k. k < total in subst P same is
      ]

  -- a chain that goes on and on comes back to a number that it has passed
  comes_back :
      (left : ℕ) (passed : List ℕ) (first last : ℕ) (met : Bool)
      → list_any (eqb last) passed ≡ met
      → Lasts last → ReachesBy (HasLink links) first last → IsDistinct eqb passed
      → ((a : ℕ) → Contains passed a → IsPassed last a) → total ≤ left + length passed
      → LeadsToCycle links first
  comes_back left passed first last true met lasts reaches distinct each enough =
      let own = each last (Contains-from_any eqb-true last passed met) in
      (last, reaches, own.1)
  comes_back zero passed first last false new lasts reaches distinct each enough =
      absurd (omega (arith, few_passed passed last (below last lasts) distinct each new, enough))
  comes_back (suc left) passed first last false new lasts reaches distinct each enough =
      let next = goes_on last lasts in
      comes_back left (passed ++ last ∷ []) first next.0
      (list_any (eqb next.0) (passed ++ last ∷ [])) refl next.2 (step reaches next.1)
      (IsDistinct-push nat_eq_equiv passed last distinct new)
      (passed_more passed last next.0 (below last lasts) next.1 each)
      (omega (arith, enough, length_push passed last))

  -- so links lead from where it begins to a number that reaches itself
  pub lasting_leads_to_cycle : (n : ℕ) → Lasts n → LeadsToCycle links n
  unfolding IsDistinct
  lasting_leads_to_cycle n lasts =
      comes_back total [] n n false refl lasts stay tt (λ a has. absurd (omega (arith, has.1))) (omega arith)
