-- Cycles and ranks by links.
use Rattle.std.proofs.Common.{◌≡◌, ℕ, zero, suc, ◌<◌, ◌↔◌, List, Option, Some, None, map, unwrap_or, length, slice_index_or, refl, sym, ◌∙◌, subst, arith}
use Rattle.std.specs.Option.{MatchOption}
use Rattle.std.proofs.lemmas.List.{length-map, get_or-map, get_or_default}
use Rattle.spec_grammar.specs.Cycles.{Leads, IsCyclic, IsAcyclic, IsRank}
use Rattle.spec_grammar.proofs.CycleLemmas.{leads_then}
use Rattle.spec_grammar.specs.Grammars.{Grammar}
use Rattle.number_graph.specs.Graphs.{HasLink, AreLinksWithin, ReachesBy, stay, step, IsOnCycle}
use Rattle.number_graph.specs.Chains.{LinksLead, IsHeight, LeadsToCycle, AreHeights, IsLeastOnCycle}
use Rattle.number_graph.proofs.ReachLemmas.{reaches_on}
use Rattle.numbered_grammar.specs.Making.{IsLeastCyclic}
use Rattle.numbered_grammar.specs.StepLinks.{AreSteps}
use Rattle.numbered_grammar.specs.Ranks.{AreRanks}

module _ (g : Grammar) (links : List (List ℕ)) (are : AreSteps g links) where
  -- links lead along a chain of steps
  chain_reaches : (n a b : ℕ) → Leads g.rules n a b → ReachesBy (HasLink links) a b
  chain_reaches zero a b leads = let P : ℕ → Type 0 = λ c. ReachesBy (HasLink links) a c in subst P leads stay
  chain_reaches (suc n) a b leads =
      reaches_on (HasLink links) a leads.0 b
      (step stay ((are.exact a leads.0).1 leads.1)) (chain_reaches n leads.0 b leads.2)

  -- what links lead to is at the end of a chain of steps
  reached_by_chain : (a b : ℕ) → ReachesBy (HasLink links) a b → (n : ℕ) × Leads g.rules n a b
  reached_by_chain a b stay = (0, refl)
  reached_by_chain a c (step {b = b} before last) =
      let chain = reached_by_chain a b before in
      (suc chain.0, leads_then g.rules chain.0 a b c chain.1 ((are.exact b c).0 last))

  -- a category reaches itself exactly where its number does
  pub cyclic_number : (c : ℕ) → IsOnCycle links c ↔ IsCyclic g.rules c
  cyclic_number c = (
    (λ on.
        let chain = reached_by_chain on.0 c on.2 in
        (chain.0, (on.0, (are.exact c on.0).0 on.1, chain.1))),
    (λ cyclic.
        let first = cyclic.1 in
        (first.0, (are.exact c first.0).1 first.1, chain_reaches cyclic.0 first.0 c first.2)),
  )

  -- links stay within the categories
  pub steps_within : AreLinksWithin links
  steps_within m n has = omega (arith, are.count, are.to m n ((are.exact m n).0 has))

  -- the least number that reaches itself is that of the least such category
  pub least_cyclic : (c : ℕ) → IsLeastOnCycle links c → IsLeastCyclic g c
  least_cyclic c least =
      let cyclic = (cyclic_number c).0 least.on_cycle in
      let first = cyclic.1 in
      record {
        within = are.from c first.0 first.1;
        cyclic = cyclic;
        earlier = λ lesser less is. least.earlier lesser less ((cyclic_number lesser).1 is);
      }

  -- where no number reaches itself, no category does
  pub none_cyclic : ((n : ℕ) → IsOnCycle links n → ⊥) → IsAcyclic g.rules
  none_cyclic none c cyclic = none c ((cyclic_number c).1 cyclic)

  -- chains of links are chains of steps
  chains_alike : (n a b : ℕ) → LinksLead links n a b ↔ Leads g.rules n a b
  chains_alike zero a b = ((λ same. same), (λ same. same))
  chains_alike (suc n) a b = (
    (λ chain. (chain.0, (are.exact a chain.0).0 chain.1, (chains_alike n chain.0 b).0 chain.2)),
    (λ chain. (chain.0, (are.exact a chain.0).1 chain.1, (chains_alike n chain.0 b).1 chain.2)),
  )

  -- so a height is a rank
  height_is_rank : (c n : ℕ) → IsHeight links c n → IsRank g.rules c n
  height_is_rank c n is =
      let chain = is.0 in (
        (chain.0, (chains_alike n c chain.0).0 chain.1),
        (λ longer. is.1 (longer.0, (chains_alike (suc n) c longer.0).1 longer.1)),
      )

  -- where no number reaches itself, each height is told, and they are the ranks
  pub heights_are_ranks :
      (heights : List (Option ℕ)) (told : List ℕ)
      → ((n : ℕ) → IsOnCycle links n → ⊥) → AreHeights links heights
      → told ≡ map (λ h. unwrap_or h 0) heights → AreRanks g told
  heights_are_ranks heights told none all is = rw is (record {
    count = length-map heights (λ h. unwrap_or h 0) ∙ all.count ∙ are.count;
    each = λ c below.
        let within : c < length links = omega (arith, below, are.count) in
        subst (IsRank g.rules c)
        (sym (get_or-map (λ h. unwrap_or h 0) heights c None 0 (omega (arith, within, all.count))))
        (of_each c within (slice_index_or heights c None) refl);
  })
    where
      of_each :
          (c : ℕ) → c < length links → (height : Option ℕ) → slice_index_or heights c None ≡ height
          → IsRank g.rules c (unwrap_or height 0)
      of_each c below height is_height =
          by_height height (subst (λ o. MatchOption o (LeadsToCycle links c) (IsHeight links c)) is_height (all.each c below))
        where
          by_height : (height : Option ℕ) → MatchOption height (LeadsToCycle links c) (IsHeight links c) → IsRank g.rules c (unwrap_or height 0)
          by_height (Some h) has = height_is_rank c h has
          by_height None leads = absurd (none leads.0 leads.2)

-- what stands at a category's place in the list is its rank
pub rank_at :
    (g : Grammar) (ranks : List ℕ) (c rank : ℕ)
    → AreRanks g ranks → c < length g.categories → rank ≡ slice_index_or ranks c rank
    → IsRank g.rules c rank
rank_at g ranks c rank are below is =
    let at : rank ≡ slice_index_or ranks c 0 = is ∙ get_or_default ranks c rank 0 (omega (arith, below, are.count)) in
    subst (IsRank g.rules c) (sym at) (are.each c below)
