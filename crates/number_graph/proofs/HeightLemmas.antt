-- Heights that are told one after another.
use Rattle.std.proofs.Common.{◌≡◌, ℕ, suc, ◌+◌, ◌<◌, ◌≤◌, inl, inr, List, [], ◌∷◌, ◌++◌}
use Rattle.std.proofs.Common.{max, length, take, slice_set, slice_index_or, refl, sym, ap, ◌∙◌, arith, subst}
use Rattle.std.proofs.Common.{length-set, get_or-set_other}
use Rattle.std.specs.Prelude.{Option, None, Some, MatchOption}
use Rattle.std.specs.List.{Contains}
use Rattle.std.proofs.lemmas.Bool.{cases_eq, cases_lt}
use Rattle.std.proofs.lemmas.Grind.{get_or-set_at}
use Rattle.std.proofs.lemmas.List.{get_or_default, take_all, take_more}
use Rattle.std.proofs.lemmas.List.Elements.{Contains-append_left, Contains-push, Contains-push_cases}
use Rattle.std.proofs.lemmas.Option.{none-some}
use Rattle.number_graph.specs.Graphs.{HasLink, IsOnCycle, AreLinksWithin}
use Rattle.number_graph.specs.Chains.{HasLinkChain, IsHeight, LeadsToCycle, AreHeights}
use Rattle.number_graph.specs.Derivations.{AreWithin, IsFound}
use Rattle.number_graph.specs.HeightSteps.{AreNumbersBelow, IsTold, IsHeightAbove, IsHeightWith, AreHeightsUpTo, IsLinkOrder}
use Rattle.number_graph.specs.declared.derivation.Search.{Search}
use Rattle.number_graph.proofs.LinkLemmas.{link_within}
use Rattle.number_graph.proofs.FlagLemmas.{set_within}
use Rattle.number_graph.proofs.ChainLemmas.{shorter_chain, link_lengthens, height_is_on_none, lasting_leads_to_cycle}
use Rattle.number_graph.proofs.DerivationLemmas.{front_or_last}

-- the height above the targets, with one target more
pub height_more :
    (targets : List ℕ) (heights : List (Option ℕ)) (target old new : ℕ)
    → IsHeightAbove targets heights old → IsHeightWith old (slice_index_or heights target None) new
    → IsHeightAbove (targets ++ target ∷ []) heights new
height_more targets heights target old new before more = record {
  found = elim more.found [
    | inr (h, told, is) ↦ inr (target, h, Contains-push targets target, told, is)
    | inl same ↦ elim before.found [
      | inl none ↦ inl (same ∙ none)
      | inr (t, h, has, told, is) ↦
          inr (t, h, Contains-append_left targets (target ∷ []) t has, told, same ∙ is)
    ]
  ];
  above = λ t h has told. elim (Contains-push_cases targets target t has) [
    | inl earlier ↦ omega (arith, before.above t h earlier told, more.from_others)
    | inr same ↦ more.above h (subst (λ k. IsTold heights k h) (sym same) told)
  ];
}

-- what is told of a number is one height
abbrev value_of : Option ℕ → ℕ
value_of None = 0
value_of (Some n) = n

same_value : (o : Option ℕ) (h k : ℕ) → o ≡ Some h → o ≡ Some k → h ≡ k
same_value o h k first second = ap value_of (sym first ∙ second)

told_once : (heights : List (Option ℕ)) (n h k : ℕ) → IsTold heights n h → IsTold heights n k → h ≡ k
told_once heights n h k first second = same_value (slice_index_or heights n None) h k first second

-- the height above one target more whose height is told
pub height_with_told :
    (height below : ℕ) (target : Option ℕ) (longer : ℕ)
    → target ≡ Some below → longer ≡ max height (below + 1) → IsHeightWith height target longer
height_with_told height below target longer told is = record {
  from_others = omega (arith, is);
  above = λ h also.
      let same : below ≡ h = same_value target below h told also in
      omega (arith, is, same);
  found = elim (cases_lt height (below + 1)) [
    | inl less ↦ inr (below, told, omega (arith, is, less))
    | inr past ↦ inl (omega (arith, is, past))
  ];
}

module _ (links : List (List ℕ)) (order : List ℕ) (k : ℕ) (heights : List (Option ℕ)) (number height : ℕ)
    (so_far : AreHeightsUpTo links order k heights) (within : k < length order)
    (below : number < length links) (is_number : number ≡ slice_index_or order k 0)
    (ordered : (n : ℕ) → HasLink links number n → Contains (take k order) n)
    (is : IsHeightAbove (slice_index_or links number []) heights height) where
  -- the height above the targets of a number is its height
  own_height : IsHeight links number height
  own_height = (chain, none_longer)
    where
      chain : HasLinkChain links number height
      chain = elim is.found [
        | inl none ↦ subst (HasLinkChain links number) (sym none) (number, refl)
        | inr (t, h, has, told, one_more) ↦
            let same : suc h ≡ height = omega (arith, one_more) in
            subst (HasLinkChain links number) same (link_lengthens links number t h has (so_far.exact t h told).0.0)
      ]

      none_longer : HasLinkChain links number (suc height) → ⊥
      none_longer longer =
          let first = longer.1 in
          let told = so_far.told first.0 (ordered first.0 first.1) in
          let less : told.0 < height = is.above first.0 told.0 first.1 told.1 in
          (so_far.exact first.0 told.0 told.1).0.1
          (shorter_chain links (suc told.0) height first.0 less (longer.0, first.2))

  -- it is at most the number of those before
  few : height < k + 1
  few = elim is.found [
    | inl none ↦ omega (arith, none)
    | inr (t, h, has, told, one_more) ↦ omega (arith, (so_far.exact t h told).1, one_more)
  ]

  -- the height of the number is told
  own_told : (n : ℕ) → n ≡ number → IsTold (slice_set heights number (Some height)) n height
  own_told n same = get_or-set_at heights number n (Some height) None same (omega (arith, so_far.count, below))

  -- any other height is told as it was
  other_told :
      (n : ℕ) → (n ≡ number → ⊥)
      → slice_index_or (slice_set heights number (Some height)) n None ≡ slice_index_or heights n None
  other_told n differ = get_or-set_other heights number n (Some height) None differ

  -- the heights of the first numbers of the order with one more
  pub heights_more : AreHeightsUpTo links order (k + 1) (slice_set heights number (Some height))
  heights_more = record {
    count = length-set heights number (Some height) ∙ so_far.count;
    told = λ n has. elim (cases_eq n number) [
      | inl same ↦ (height, own_told n same)
      | inr differ ↦ elim (front_or_last order k within n has) [
        | inr last ↦ absurd (differ (last ∙ sym is_number))
        | inl front ↦ let told = so_far.told n front in (told.0, other_told n differ ∙ told.1)
      ]
    ];
    exact = λ n h told. elim (cases_eq n number) [
      | inr differ ↦
          let old = so_far.exact n h (sym (other_told n differ) ∙ told) in
          (old.0, omega (arith, old.1), longer n old.2)
      | inl same ↦
          let is_h : height ≡ h = told_once (slice_set heights number (Some height)) n height h (own_told n same) told in
          let Both : ℕ → ℕ → Type 0 = λ m i. IsHeight links m i × (i < k + 1) × Contains (take (k + 1) order) m in
          subst (λ m. Both m h) (sym same) (subst (Both number) is_h (own_height, few, last_in))
    ];
  }
    where
      longer : (n : ℕ) → Contains (take k order) n → Contains (take (k + 1) order) n
      longer n has =
          subst (λ xs. Contains xs n) (sym (take_more order k 0 within))
          (Contains-append_left (take k order) (slice_index_or order k 0 ∷ []) n has)

      last_in : Contains (take (k + 1) order) number
      last_in =
          let stands : Contains (take k order ++ slice_index_or order k 0 ∷ []) (slice_index_or order k 0) =
          Contains-push (take k order) (slice_index_or order k 0) in
          subst (Contains (take (k + 1) order)) (sym is_number)
          (subst (λ xs. Contains xs (slice_index_or order k 0)) (sym (take_more order k 0 within)) stands)

-- numbers below a total, each at its place, are the conclusions of links within it
pub links_imply :
    (links : List (List ℕ)) (total : ℕ) (numbers : List ℕ)
    → AreLinksWithin links → total ≡ length links → AreNumbersBelow total numbers
    → AreWithin total links numbers
links_imply links total numbers within is_total are = record {
  lists = omega (arith, are.count, is_total);
  premises_below = λ i p has. omega (arith, within i p has, is_total);
  conclusions_below = λ n has. below n has;
}
  where
    below : (n : ℕ) → Contains numbers n → n < total
    below n (k, short, at_k) =
        let same : slice_index_or numbers k 0 ≡ n = sym (get_or_default numbers k n 0 short) ∙ at_k in
        let here : k < total = omega (arith, are.count, short) in
        omega (arith, here, are.each k here, same)

module _ (links : List (List ℕ)) (total : ℕ) (numbers : List ℕ) (search : Search)
    (within : AreLinksWithin links) (is_total : total ≡ length links) (are : AreNumbersBelow total numbers)
    (found : IsFound links numbers total search) where
  -- a number that is found has a flag
  pub order_within : (n : ℕ) → Contains search.order.items n → n < length links
  order_within n has =
      omega (arith, found.count, set_within search.flags.items n (found.under_way.flagged n has), is_total)

  -- each number that is found is linked to numbers that were found before it alone
  pub order_of_links : IsLinkOrder links search.order.items
  order_of_links k short n has =
      let founded = found.under_way.founded k short in
      let is_i : founded.0 ≡ slice_index_or search.order.items k 0 =
      sym (are.each founded.0 (omega (arith, are.count, founded.1))) ∙ founded.2 in
      founded.3 n (subst (λ m. HasLink links m n) (sym is_i) has)

  -- a number that is not found lasts
  abbrev Lasts : ℕ → Type 0
  Lasts n = (n < length links) × (Contains search.order.items n → ⊥)

  -- it is linked to one that lasts
  lasts_on : (n : ℕ) → Lasts n → (m : ℕ) × HasLink links n m × Lasts m
  lasts_on n (below, missing) =
      elim (found.all_done n (omega (arith, are.count, is_total, below))) [
        | inl has ↦ absurd (missing (subst (Contains search.order.items) (are.each n (omega (arith, is_total, below))) has))
        | inr (p, link, also_missing) ↦ (p, link, (within n p link, also_missing))
      ]

  -- where the heights of all numbers that are found are told, the others lead to cycles
  pub heights_told :
      (heights : List (Option ℕ))
      → AreHeightsUpTo links search.order.items (length search.order.items) heights
      → AreHeights links heights
  heights_told heights up_to = record {
    count = up_to.count;
    each = λ n below. of_each n below (slice_index_or heights n None) refl;
  }
    where
      of_each :
          (n : ℕ) → n < length links → (height : Option ℕ) → slice_index_or heights n None ≡ height
          → MatchOption height (LeadsToCycle links n) (IsHeight links n)
      of_each n below (Some h) told = (up_to.exact n h told).0
      of_each n below None untold =
          lasting_leads_to_cycle links (length links) Lasts lasts_on (λ m lasts. lasts.0) n (
            below,
            (λ has.
                let told = up_to.told n (subst (λ xs. Contains xs n)
                (sym (take_all (length search.order.items) search.order.items (omega arith))) has) in
                none-some told.0 (sym untold ∙ told.1)),
          )

-- a number with a height does not reach itself
pub told_is_on_none :
    (links : List (List ℕ)) (heights : List (Option ℕ)) (n h : ℕ)
    → AreHeights links heights → n < length links → IsTold heights n h → IsOnCycle links n → ⊥
told_is_on_none links heights n h are below told =
    let P : Option ℕ → Type 0 = λ o. MatchOption o (LeadsToCycle links n) (IsHeight links n) in
    height_is_on_none links n h (subst P told (are.each n below))

-- where none of the numbers reaches itself, none does
pub none_on_cycle :
    (links : List (List ℕ)) (total : ℕ)
    → length links ≤ total → ((n : ℕ) → n < total → IsOnCycle links n → ⊥) → (n : ℕ) → IsOnCycle links n → ⊥
none_on_cycle links total all none n on =
    none n (omega (arith, all, link_within links n on.0 on.1)) on
