-- A first tree is one before which none comes, and where no category reaches itself each such tree
-- is first.
use Rattle.std.proofs.Common.{Bool, ◌≡◌, ℕ, ◌⊎◌, inl, inr, List, Option, refl, sym, ◌∙◌, subst}
use Rattle.spec_grammar.specs.declared.rule.Symbol.{Symbol}
use Rattle.spec_grammar.specs.declared.rule.Rule.{Rule}
use Rattle.spec_grammar.specs.Trees.{Tree, leaf, node, Forest, no_trees, trees}
use Rattle.spec_grammar.specs.Derivation.{IsParseTree, AreParseTrees}
use Rattle.spec_grammar.specs.Cycles.{IsAcyclic}
use Rattle.spec_trees.specs.FirstTrees.{tree_end, ends_of, EndsOrder, from_left, IsFirstTree, AreFirstTrees}
use Rattle.spec_trees.specs.TreeOrders.{ComesBefore, HasFirstBefore}
use Rattle.spec_trees.specs.OrderLaws.{IsStrictOrder, TellsApart}
use Rattle.spec_trees.proofs.FirstTreeLemmas.{below_same_above, ends_with_span, ends_length, first_is_parse_tree, left_tells_apart}
use Rattle.spec_trees.proofs.TellingLemmas.{derived_or_not}
use Rattle.spec_trees.proofs.ExistenceLemmas.{HasFirstTree, derived_has_first}

module _ (rules : List Rule) (kinds : List (Option ℕ)) (is_before : EndsOrder) where
  mutual
    -- no parse tree comes before a first tree
    pub none_before_first :
        (t other : Tree) (s : Symbol) (i j : ℕ)
        → IsFirstTree is_before rules kinds t s i j → IsParseTree rules kinds other s i j
        → ComesBefore is_before other t → ⊥
    none_before_first t (leaf kind first end) s i j is is_other before = before
    none_before_first (leaf kind first end) (node r first' end' others) s i j is is_other before = before
    none_before_first (node r first end subtrees) (node r' first' end' others) s i j is is_other before =
        elim before [
          | inl less ↦ is.6 r' is_other.0 less is_other.1 category (others, is_other.3)
          | inr same ↦ elim same.1 [
            | inl sooner ↦ is.7 others (own same.0) sooner
            | inr alike ↦
                none_before_firsts subtrees others (is.0).items i j (sym alike.0) is.3 (own same.0)
                alike.1
          ]
        ]
      where
        category : (is_other.0).category ≡ (is.0).category
        category = cc

        own : r' ≡ r → AreParseTrees rules kinds others (is.0).items i j
        own same =
            let rule : is_other.0 ≡ is.0 = cc in
            subst (λ (x : Rule). AreParseTrees rules kinds others x.items i j) rule is_other.3

    -- and of trees side by side that end alike, none comes before first trees
    none_before_firsts :
        (ts others : Forest) (items : List Symbol) (i j : ℕ)
        → ends_of ts ≡ ends_of others
        → AreFirstTrees is_before rules kinds ts items i j
        → AreParseTrees rules kinds others items i j
        → HasFirstBefore is_before others ts → ⊥
    none_before_firsts ts no_trees items i j ends are are_others before = before
    none_before_firsts no_trees (trees u us) items i j ends are are_others before = before
    none_before_firsts (trees t ts) (trees u us) items i j ends are are_others before =
        let symbol : are_others.0 ≡ are.0 = cc in
        let rest : are_others.1 ≡ are.1 = cc in
        let end : tree_end t ≡ tree_end u = cc in
        let behind : ends_of ts ≡ ends_of us = cc in
        let here = ends_with_span rules kinds t are.0 i are.2 (first_is_parse_tree rules kinds is_before t are.0 i are.2 are.4) in
        let here' = ends_with_span rules kinds u are_others.0 i are_others.2 are_others.4 in
        let cut : are_others.2 ≡ are.2 = sym here' ∙ (sym end ∙ here) in
        let P : Symbol → ℕ → Type 0 = λ s k. IsParseTree rules kinds u s i k in
        let Q : List Symbol → ℕ → Type 0 = λ items k. AreParseTrees rules kinds us items k j in
        let first : P are.0 are.2 = subst (λ k. P are.0 k) cut (subst (λ s. P s are_others.2) symbol are_others.4) in
        let others : Q are.1 are.2 = subst (λ k. Q are.1 k) cut (subst (λ items. Q items are_others.2) rest are_others.5) in
        elim before [
          | inl sooner ↦ none_before_first t u are.0 i are.2 are.4 first sooner
          | inr same ↦ none_before_firsts ts us are.1 are.2 j behind are.5 others same.1
        ]

  -- trees are the same, or one comes before the other
  abbrev AreCompared : Tree → Tree → Type 0
  AreCompared t other =
      (t ≡ other) ⊎ (ComesBefore is_before t other ⊎ ComesBefore is_before other t)

  -- and so are trees side by side
  abbrev AreAllCompared : Forest → Forest → Type 0
  AreAllCompared ts others =
      (ts ≡ others) ⊎ (HasFirstBefore is_before ts others ⊎ HasFirstBefore is_before others ts)

  module _ (apart : TellsApart is_before) where
    mutual
      -- of two parse trees of a symbol over a span one comes before the other, unless they are one
      trees_are_compared :
          (t other : Tree) (s : Symbol) (i j : ℕ)
          → IsParseTree rules kinds t s i j → IsParseTree rules kinds other s i j
          → AreCompared t other
      trees_are_compared (leaf kind first end) (leaf kind' first' end') s i j is is' =
          let same : kind ≡ kind' = cc in
          let begins : first ≡ first' = is.3 ∙ sym is'.3 in
          let ends : end ≡ end' = is.4 ∙ sym is'.4 in
          inl (cc)
      trees_are_compared (leaf kind first end) (node r first' end' subtrees) s i j is is' = absurd (cc)
      trees_are_compared (node r first end subtrees) (leaf kind first' end') s i j is is' = absurd (cc)
      trees_are_compared (node r first end ts) (node r' first' end' us) s i j is is' =
          elim (below_same_above r r') [
            | inl less ↦ inr (inl (inl less))
            | inr (inl same) ↦
                let rule : is'.0 ≡ is.0 = cc in
                let own : AreParseTrees rules kinds us (is.0).items i j =
                subst (λ (x : Rule). AreParseTrees rules kinds us x.items i j) rule is'.3 in
                let long = ends_length rules kinds ts (is.0).items i j is.3 in
                let long' = ends_length rules kinds us (is.0).items i j own in
                elim (apart (ends_of ts) (ends_of us) (long ∙ sym long')) [
                  | inl ends ↦
                      elim (forests_are_compared ts us (is.0).items i j ends is.3 own) [
                        | inl all ↦
                            let begins : first ≡ first' = is.4 ∙ sym is'.4 in
                            let end_same : end ≡ end' = is.5 ∙ sym is'.5 in
                            inl (cc)
                        | inr (inl before) ↦ inr (inl (inr (same, inr (ends, before))))
                        | inr (inr after) ↦ inr (inr (inr (sym same, inr (sym ends, after))))
                      ]
                  | inr (inl before) ↦ inr (inl (inr (same, inl before)))
                  | inr (inr after) ↦ inr (inr (inr (sym same, inl after)))
                ]
            | inr (inr more) ↦ inr (inr (inl more))
          ]

      -- and of trees side by side that end alike
      forests_are_compared :
          (ts others : Forest) (items : List Symbol) (i j : ℕ)
          → ends_of ts ≡ ends_of others
          → AreParseTrees rules kinds ts items i j → AreParseTrees rules kinds others items i j
          → AreAllCompared ts others
      forests_are_compared no_trees no_trees items i j ends are are' = inl refl
      forests_are_compared no_trees (trees u us) items i j ends are are' = absurd (cc)
      forests_are_compared (trees t ts) no_trees items i j ends are are' = absurd (cc)
      forests_are_compared (trees t ts) (trees u us) items i j ends are are' =
          let symbol : are'.0 ≡ are.0 = cc in
          let rest : are'.1 ≡ are.1 = cc in
          let end : tree_end t ≡ tree_end u = cc in
          let behind : ends_of ts ≡ ends_of us = cc in
          let here = ends_with_span rules kinds t are.0 i are.2 are.4 in
          let here' = ends_with_span rules kinds u are'.0 i are'.2 are'.4 in
          let cut : are'.2 ≡ are.2 = sym here' ∙ (sym end ∙ here) in
          let P : Symbol → ℕ → Type 0 = λ s k. IsParseTree rules kinds u s i k in
          let Q : List Symbol → ℕ → Type 0 = λ items k. AreParseTrees rules kinds us items k j in
          let first : P are.0 are.2 = subst (λ k. P are.0 k) cut (subst (λ s. P s are'.2) symbol are'.4) in
          let others : Q are.1 are.2 = subst (λ k. Q are.1 k) cut (subst (λ items. Q items are'.2) rest are'.5) in
          elim (trees_are_compared t u are.0 i are.2 are.4 first) [
            | inl same ↦
                elim (forests_are_compared ts us are.1 are.2 j behind are.5 others) [
                  | inl all ↦ inl (cc)
                  | inr (inl before) ↦ inr (inl (inr (same, before)))
                  | inr (inr after) ↦ inr (inr (inr (sym same, after)))
                ]
            | inr (inl before) ↦ inr (inl (inl before))
            | inr (inr after) ↦ inr (inr (inl after))
          ]

-- where no category reaches itself, a parse tree before which none comes is first
pub least_is_first :
    (is_lesser : ℕ → ℕ → Bool) → IsStrictOrder is_lesser
    → (rules : List Rule) (kinds : List (Option ℕ)) → IsAcyclic rules
    → (t : Tree) (s : Symbol) (i j : ℕ) → IsParseTree rules kinds t s i j
    → ((other : Tree)
    → IsParseTree rules kinds other s i j → ComesBefore (from_left is_lesser) other t → ⊥)
    → IsFirstTree (from_left is_lesser) rules kinds t s i j
least_is_first is_lesser order rules kinds acyclic t s i j is none =
    let first : HasFirstTree is_lesser order rules kinds s i j =
    derived_has_first is_lesser order rules kinds (derived_or_not rules kinds) acyclic s i j (t, is) in
    let parses = first_is_parse_tree rules kinds (from_left is_lesser) first.0 s i j first.1 in
    elim (trees_are_compared rules kinds (from_left is_lesser) (left_tells_apart is_lesser order) t first.0 s i j is parses) [
      | inl same ↦
          subst (λ x. IsFirstTree (from_left is_lesser) rules kinds x s i j) (sym same) first.1
      | inr (inl before) ↦
          absurd (none_before_first rules kinds (from_left is_lesser) first.0 t s i j first.1 is before)
      | inr (inr after) ↦ absurd (none first.0 parses after)
    ]
