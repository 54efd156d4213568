-- Ends before which none come are the least in turn: that of the first item, then those of the others.
use Rattle.std.proofs.Common.{◌≡◌, ℕ, inl, inr, List, [], ◌∷◌, Option, Bool, refl, sym, ◌∙◌, subst}
use Rattle.spec_grammar.specs.declared.rule.Symbol.{Symbol}
use Rattle.spec_grammar.specs.declared.rule.Rule.{Rule}
use Rattle.spec_grammar.specs.Trees.{no_trees, trees}
use Rattle.spec_grammar.specs.Derivation.{IsParseTree, AreParseTrees, Derives}
use Rattle.spec_trees.specs.FirstTrees.{tree_end, ends_of, from_left, NoEndsBefore}
use Rattle.spec_trees.specs.OrderLaws.{NoLesserCut}
use Rattle.spec_trees.proofs.FirstTreeLemmas.{lesser_first, lesser_behind, lesser_cases, ends_with_span}

module _ (is_lesser : ℕ → ℕ → Bool) (rules : List Rule) (kinds : List (Option ℕ)) where
  -- no ends come before none
  pub none_before_none :
      (items : List Symbol) (i j : ℕ) → NoEndsBefore (from_left is_lesser) rules kinds [] items i j
  none_before_none items i j no_trees are before = cc
  none_before_none items i j (trees t ts) are before = cc

  module _ (s : Symbol) (rest : List Symbol) (i k j : ℕ) (ends : List ℕ) where
    -- none come before those of a least cut and the least behind it
    pub none_before_cut :
        NoLesserCut is_lesser rules kinds s rest i k j
        → NoEndsBefore (from_left is_lesser) rules kinds ends rest k j
        → NoEndsBefore (from_left is_lesser) rules kinds (k ∷ ends) (s ∷ rest) i j
    none_before_cut lesser behind no_trees are before = cc
    none_before_cut lesser behind (trees t ts) are before =
        let symbol : are.0 ≡ s = cc in
        let items : are.1 ≡ rest = cc in
        let end : tree_end t ≡ are.2 = ends_with_span rules kinds t are.0 i are.2 are.4 in
        let tree : IsParseTree rules kinds t s i are.2 =
        subst (λ (x : Symbol). IsParseTree rules kinds t x i are.2) symbol are.4 in
        let forest : AreParseTrees rules kinds ts rest are.2 j =
        subst (λ (x : List Symbol). AreParseTrees rules kinds ts x are.2 j) items are.5 in
        elim (lesser_cases is_lesser (tree_end t) k (ends_of ts) ends before) [
          | inl below ↦ lesser are.2 (rw end at below) (t, tree) (ts, forest)
          | inr same ↦
              let cut : are.2 ≡ k = sym end ∙ same.0 in
              behind ts (subst (λ n. AreParseTrees rules kinds ts rest n j) cut forest) same.1
        ]

    -- so a cut before whose ends none come is a least one
    pub cut_is_least :
        NoEndsBefore (from_left is_lesser) rules kinds (k ∷ ends) (s ∷ rest) i j
        → NoLesserCut is_lesser rules kinds s rest i k j
    cut_is_least none m lesser first others =
        let end : tree_end first.0 ≡ m = ends_with_span rules kinds first.0 s i m first.1 in
        none (trees first.0 others.0)
        (s, rest, m, refl, first.1, others.1)
        (lesser_first is_lesser (tree_end first.0) k (ends_of others.0) ends (rw end lesser))

    -- and the ends behind it are the least there
    pub ends_behind_are_least :
        Derives rules kinds s i k
        → NoEndsBefore (from_left is_lesser) rules kinds (k ∷ ends) (s ∷ rest) i j
        → NoEndsBefore (from_left is_lesser) rules kinds ends rest k j
    ends_behind_are_least first none others are before =
        let end : tree_end first.0 ≡ k = ends_with_span rules kinds first.0 s i k first.1 in
        none (trees first.0 others)
        (s, rest, k, refl, first.1, are)
        (lesser_behind is_lesser (tree_end first.0) k (ends_of others) ends end before)
