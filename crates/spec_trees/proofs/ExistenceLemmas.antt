-- Where no category reaches itself, and each span of each symbol is derived or not, a derived span
-- has a first tree: the least rule, the least ends, then first trees of shorter spans or of
-- categories to which the category steps.
use Rattle.std.proofs.Common.{◌≡◌, ℕ, zero, suc, ◌+◌, ◌<◌, ◌≤◌, ◌⊎◌, inl, inr, List, [], ◌∷◌, ◌++◌, Option, Some, None, slice_get, Bool, refl, sym, ◌∙◌, ap, subst, arith, append_assoc}
use Rattle.std.specs.List.{All}
use Rattle.std.specs.Prelude.{IsTrue}
use Rattle.std.proofs.lemmas.List.Elements.{All-nil, All-cons, All-append}
use Rattle.spec_grammar.specs.declared.rule.Symbol.{Symbol}
use Rattle.spec_grammar.specs.declared.rule.Symbol.TheVariants.{Category, Kind}
use Rattle.spec_grammar.specs.declared.rule.Rule.{Rule}
use Rattle.spec_grammar.specs.Trees.{Tree, leaf, node, Forest, no_trees, trees}
use Rattle.spec_grammar.specs.Derivation.{IsParseTree, AreParseTrees, Derives, DerivesAll, IsNullable}
use Rattle.spec_grammar.specs.Laws.{DerivesByRule}
use Rattle.spec_grammar.specs.Cycles.{StepsTo, IsAcyclic, HasChain}
use Rattle.spec_grammar.specs.CycleLaws.{StepsLeadBelow}
use Rattle.spec_grammar.proofs.DerivationLemmas.{derives_within, derives_all_within, category_derives, none_derive, some_derive, tree_ordered, forest_ordered, tree_anywhere}
use Rattle.spec_grammar.proofs.CycleLemmas.{step_lengthens, chain_is_short}
use Rattle.spec_trees.specs.FirstTrees.{tree_end, ends_of, from_left, NoLesserRule, NoEndsBefore, IsFirstTree, AreFirstTrees}
use Rattle.spec_trees.specs.OrderLaws.{IsStrictOrder}
use Rattle.spec_trees.proofs.EndsLemmas.{none_before_none, none_before_cut}
use Rattle.spec_trees.proofs.ToldLemmas.{IsToldOf, told_both, told_below, least, least_below, below_or_not}
use Rattle.spec_trees.proofs.FirstTreeLemmas.{below_same_above, ends_with_span, first_is_parse_tree}

-- how far the symbols of items go
abbrev symbol_bound : Symbol → ℕ
symbol_bound (Category c) = suc c
symbol_bound (Kind k) = 0

items_bound : List Symbol → ℕ
items_bound [] = 0
items_bound (s ∷ rest) = symbol_bound s + items_bound rest

rules_bound : List Rule → ℕ
rules_bound [] = 0
rules_bound (rule ∷ rules) = items_bound rule.items + rules_bound rules

-- an item's category is below the bound of the items
item_below :
    (front behind items : List Symbol) (c : ℕ)
    → items ≡ front ++ (Category c ∷ behind) → c < items_bound items
unfolding items_bound
item_below [] behind items c is = rw is (omega arith)
item_below (s ∷ front) behind items c is =
    let less : c < items_bound (front ++ (Category c ∷ behind)) =
    item_below front behind (front ++ (Category c ∷ behind)) c refl in
    rw is (omega (arith, less))

-- the items of a rule are within the bound of the rules
items_within :
    (rules : List Rule) (r : ℕ) (rule : Rule)
    → slice_get rules r ≡ Some rule → items_bound rule.items ≤ rules_bound rules
unfolding rules_bound
items_within [] r rule is = absurd (cc)
items_within (first ∷ rules) zero rule is =
    let same : first ≡ rule = cc in rw (← same) (omega arith)
items_within (first ∷ rules) (suc r) rule is =
    let less = items_within rules r rule is in omega (arith, less)

-- so no chain from a category goes on and on
no_long_chain :
    (rules : List Rule) → IsAcyclic rules → (c : ℕ)
    → HasChain rules c (suc c + rules_bound rules) → ⊥
no_long_chain rules acyclic c =
    chain_is_short rules (suc c + rules_bound rules) lead acyclic c (omega arith)
  where
    lead : StepsLeadBelow rules (suc c + rules_bound rules)
    lead a b step =
        omega (
          arith,
          item_below step.before step.behind (step.rule).items b step.is_item,
          items_within rules step.r step.rule step.is_rule,
        )

module _ (is_lesser : ℕ → ℕ → Bool) (order : IsStrictOrder is_lesser) (rules : List Rule) (kinds : List (Option ℕ)) where
  -- the symbol has a first tree over the span
  abbrev pub HasFirstTree : Symbol → ℕ → ℕ → Type 0
  HasFirstTree s i j = (t : Tree) × IsFirstTree (from_left is_lesser) rules kinds t s i j

  -- the parse tree of a kind is its first
  kind_has_first : (k i j : ℕ) → Derives rules kinds (Kind k) i j → HasFirstTree (Kind k) i j
  kind_has_first k i j d = by_tree d.0 d.1
    where
      by_tree : (t : Tree) → IsParseTree rules kinds t (Kind k) i j → HasFirstTree (Kind k) i j
      by_tree (leaf kind first end) is = (leaf kind first end, is)
      by_tree (node r first end subtrees) is = absurd (cc)

  -- what derives an empty span is nullable
  nullable_tree :
      (t : Tree) (s : Symbol) (i j : ℕ)
      → IsParseTree rules kinds t s i j → j ≤ i → IsNullable rules s
  nullable_tree t s i j is empty = tree_anywhere rules kinds [] t s i j 0 is empty

  -- and so are all items that together derive one
  nullable_forest :
      (ts : Forest) (items : List Symbol) (i j : ℕ)
      → AreParseTrees rules kinds ts items i j → j ≤ i → All (IsNullable rules) items
  nullable_forest no_trees items i j are empty =
      subst (λ items. All (IsNullable rules) items) (sym are.0) (All-nil (IsNullable rules))
  nullable_forest (trees t ts) items i j are empty =
      let front : i ≤ are.2 = tree_ordered rules kinds t are.0 i are.2 are.4 in
      let back : are.2 ≤ j = forest_ordered rules kinds ts are.1 are.2 j are.5 in
      let first = nullable_tree t are.0 i are.2 are.4 (omega arith) in
      let others = nullable_forest ts are.1 are.2 j are.5 (omega arith) in
      subst (λ items. All (IsNullable rules) items) (sym are.3)
      (All-cons (IsNullable rules) are.0 are.1 first others)

  module _ (told : (s : Symbol) (i j : ℕ) → IsToldOf (Derives rules kinds s i j)) where
    -- it is told of items too whether they derive a span
    told_all : (items : List Symbol) (i j : ℕ) → IsToldOf (DerivesAll rules kinds items i j)
    told_all [] i j = elim (below_same_above j i) [
      | inl below ↦ inr (λ d. absurd (omega (arith, below, (none_derive rules kinds i j).0 d)))
      | inr (inl same) ↦ inl ((none_derive rules kinds i j).1 same)
      | inr (inr above) ↦ inr (λ d. absurd (omega (arith, above, (none_derive rules kinds i j).0 d)))
    ]
    told_all (s ∷ rest) i j =
        elim (told_below (λ k. Derives rules kinds s i k × DerivesAll rules kinds rest k j) (λ k. told_both (Derives rules kinds s i k) (DerivesAll rules kinds rest k j) (told s i k) (told_all rest k j)) (suc j)) [
          | inl x ↦ inl ((some_derive rules kinds s rest i j).1 (x.0, x.2.0, x.2.1))
          | inr none ↦ inr (λ d.
              let x = (some_derive rules kinds s rest i j).0 d in
              let within = (derives_all_within rules kinds rest x.0 j x.2).0 in
              none (x.0, omega (arith, within), (x.1, x.2)))
        ]

    -- the trees of the items over the span before whose ends no others come
    abbrev pub HasLeastEnds : List Symbol → ℕ → ℕ → Type 0
    HasLeastEnds items i j =
        (ts : Forest) × AreParseTrees rules kinds ts items i j
        × NoEndsBefore (from_left is_lesser) rules kinds (ends_of ts) items i j

    -- items that derive a span do so with ends before which no others come
    least_ends : (items : List Symbol) (i j : ℕ) → DerivesAll rules kinds items i j → HasLeastEnds items i j
    least_ends [] i j d =
        (no_trees, (refl, (none_derive rules kinds i j).0 d), none_before_none is_lesser rules kinds [] i j)
    least_ends (s ∷ rest) i j d =
        let x = (some_derive rules kinds s rest i j).0 d in
        let within = (derives_all_within rules kinds rest x.0 j x.2).0 in
        let cut = least_below is_lesser order Cut cut_told (suc j) x.0 (omega (arith, within)) (x.1, x.2) in
        let others = least_ends rest cut.0 j cut.2.1 in
        let first = cut.2.0 in
        let end : tree_end first.0 ≡ cut.0 = ends_with_span rules kinds first.0 s i cut.0 first.1 in (
          trees first.0 others.0,
          (s, rest, cut.0, refl, first.1, others.1),
          none_before (tree_end first.0) cut.0 (ends_of others.0) end cut.3 others.2,
        )
      where
        Cut : ℕ → Type 0
        Cut k = Derives rules kinds s i k × DerivesAll rules kinds rest k j

        cut_told : (k : ℕ) → IsToldOf (Cut k)
        cut_told k =
            told_both (Derives rules kinds s i k) (DerivesAll rules kinds rest k j) (told s i k)
            (told_all rest k j)

        none_before :
            (end k : ℕ) (ends : List ℕ) → end ≡ k
            → ((m : ℕ) → m < suc j → Cut m → IsTrue (is_lesser m k) → ⊥)
            → NoEndsBefore (from_left is_lesser) rules kinds ends rest k j
            → NoEndsBefore (from_left is_lesser) rules kinds (end ∷ ends) (s ∷ rest) i j
        none_before end k ends same lesser behind =
            rw same (none_before_cut is_lesser rules kinds s rest i k j ends
            (λ m less first others. lesser m (omega (arith, (derives_all_within rules kinds rest m j others).0)) (first, others) less)
            behind)

    -- a rule of the category with this number derives the span
    abbrev pub DerivesBy : ℕ → ℕ → ℕ → ℕ → Type 0
    DerivesBy c i j r =
        (rule : Rule) × (slice_get rules r ≡ Some rule) × (rule.category ≡ c)
        × DerivesAll rules kinds rule.items i j

    told_rule : (c i j r : ℕ) → IsToldOf (DerivesBy c i j r)
    told_rule c i j r = by_rule (slice_get rules r) refl
      where
        by_category :
            (rule : Rule) → slice_get rules r ≡ Some rule
            → (rule.category < c) ⊎ ((rule.category ≡ c) ⊎ (c < rule.category))
            → IsToldOf (DerivesAll rules kinds rule.items i j) → IsToldOf (DerivesBy c i j r)
        by_category rule is (inr (inl same)) (inl d) = inl (rule, is, same, d)
        by_category rule is (inr (inl same)) (inr none) = inr (λ x.
            let one : x.0 ≡ rule = cc in
            none (subst (λ (y : Rule). DerivesAll rules kinds y.items i j) one x.3))
        by_category rule is (inl below) d = inr (λ x.
            let one : x.0 ≡ rule = cc in
            omega (arith, below, ap (λ (y : Rule). y.category) (sym one) ∙ x.2))
        by_category rule is (inr (inr above)) d = inr (λ x.
            let one : x.0 ≡ rule = cc in
            omega (arith, above, ap (λ (y : Rule). y.category) (sym one) ∙ x.2))

        by_rule : (o : Option Rule) → slice_get rules r ≡ o → IsToldOf (DerivesBy c i j r)
        by_rule None is = inr (λ x. cc (x.1))
        by_rule (Some rule) is =
            by_category rule is (below_same_above rule.category c) (told_all rule.items i j)

    -- each derived span that is shorter has a first tree
    abbrev pub HaveFirstsBelow : ℕ → Type 0
    HaveFirstsBelow len =
        (s : Symbol) (i j : ℕ) → j < i + len → Derives rules kinds s i j → HasFirstTree s i j

    -- and so has each one of this category that is not longer
    abbrev pub HasFirstsUpTo : ℕ → ℕ → Type 0
    HasFirstsUpTo len c =
        (i j : ℕ) → j < i + suc len → Derives rules kinds (Category c) i j
        → HasFirstTree (Category c) i j

    -- the first trees of the items of one rule
    module _ (len c r : ℕ) (rule : Rule) (is_rule : slice_get rules r ≡ Some rule) (is_of : rule.category ≡ c) (shorter : HaveFirstsBelow len) (below : (b : ℕ) → StepsTo rules c b → HasFirstsUpTo len b) (i j : ℕ) (fits : j < i + suc len) where
      -- an item has a first tree where it derives less than the whole, or all others are nullable
      item_has_first :
          (front behind : List Symbol) (s : Symbol) (a k : ℕ)
          → rule.items ≡ front ++ (s ∷ behind) → i ≤ a → k ≤ j
          → (a ≤ i → All (IsNullable rules) front) → (j ≤ k → All (IsNullable rules) behind)
          → Derives rules kinds s a k → HasFirstTree s a k
      item_has_first front behind (Kind kind) a k is from to before after d = kind_has_first kind a k d
      item_has_first front behind (Category b) a k is from to before after d =
          elim (below_or_not k (a + len)) [
            | inl less ↦ shorter (Category b) a k less d
            | inr whole ↦
                below b (step (before (omega (arith, fits, from, to, whole))) (after (omega (arith, fits, from, to, whole)))) a k
                (omega (arith, fits, from, to, whole)) d
          ]
        where
          step : All (IsNullable rules) front → All (IsNullable rules) behind → StepsTo rules c b
          step nullable_before nullable_behind = record {
            r = r;
            rule = rule;
            is_rule = is_rule;
            is_of = is_of;
            before = front;
            behind = behind;
            is_item = is;
            nullable_before = nullable_before;
            nullable_behind = nullable_behind;
          }

      -- so items have first trees with the same ends
      items_have_firsts :
          (front items : List Symbol) (a : ℕ)
          → rule.items ≡ front ++ items → i ≤ a → (a ≤ i → All (IsNullable rules) front)
          → (ts : Forest) → AreParseTrees rules kinds ts items a j
          → (us : Forest) × AreFirstTrees (from_left is_lesser) rules kinds us items a j
          × (ends_of us ≡ ends_of ts)
      items_have_firsts front items a is from before no_trees are = (no_trees, are, refl)
      items_have_firsts front items a is from before (trees t ts) are =
          let s : Symbol = are.0 in
          let rest : List Symbol = are.1 in
          let k : ℕ = are.2 in
          let order : a ≤ k = tree_ordered rules kinds t s a k are.4 in
          let back : k ≤ j = forest_ordered rules kinds ts rest k j are.5 in
          let whole : rule.items ≡ front ++ (s ∷ rest) = is ∙ ap (λ xs. front ++ xs) are.3 in
          let first : HasFirstTree s a k =
          item_has_first front rest s a k whole from back before (λ empty. nullable_forest ts rest k j are.5 empty) (t, are.4) in
          let more : rule.items ≡ (front ++ (s ∷ [])) ++ rest = whole ∙ sym (append_assoc front (s ∷ []) rest) in
          let passed : k ≤ i → All (IsNullable rules) (front ++ (s ∷ [])) =
          λ empty. All-append (IsNullable rules) front (s ∷ []) (before (omega (arith, order, empty)))
          (All-cons (IsNullable rules) s [] (nullable_tree t s a k are.4 (omega (arith, empty, from))) (All-nil (IsNullable rules))) in
          let others = items_have_firsts (front ++ (s ∷ [])) rest k more (omega (arith, from, order)) passed ts are.5 in
          let own : tree_end first.0 ≡ k =
          ends_with_span rules kinds first.0 s a k (first_is_parse_tree rules kinds (from_left is_lesser) first.0 s a k first.1) in
          let end : tree_end t ≡ k = ends_with_span rules kinds t s a k are.4 in
          let same : tree_end first.0 ≡ tree_end t = own ∙ sym end in
          (trees first.0 others.0, (s, rest, k, are.3, first.1, others.1), ends_same same others.2)
        where
          ends_same :
              {x y : ℕ} {xs ys : List ℕ} → x ≡ y → xs ≡ ys → x ∷ xs ≡ y ∷ ys
          ends_same same others = cc

    -- trees with the same ends have them as early
    same_ends_kept :
        (items : List Symbol) (i j : ℕ) (ts us : Forest) → ends_of us ≡ ends_of ts
        → NoEndsBefore (from_left is_lesser) rules kinds (ends_of ts) items i j
        → NoEndsBefore (from_left is_lesser) rules kinds (ends_of us) items i j
    same_ends_kept items i j ts us same none =
        subst (λ ends. NoEndsBefore (from_left is_lesser) rules kinds ends items i j) (sym same) none

    -- the first tree of a category whose chains are shorter than n
    category_has_first :
        (len : ℕ) → HaveFirstsBelow len → (n c : ℕ) → (HasChain rules c n → ⊥) → HasFirstsUpTo len c
    category_has_first len shorter zero c none i j fits d = absurd (none (c, refl))
    category_has_first len shorter (suc n) c none i j fits d =
        let x : DerivesByRule rules kinds c i j = (category_derives rules kinds c i j).0 d in
        let first = least (DerivesBy c i j) (told_rule c i j) x.0 (x.1, x.2, x.3, x.4) in
        let r : ℕ = first.0 in
        let rule : Rule = first.1.0 in
        let ends = least_ends rule.items i j first.1.3 in
        let below : (b : ℕ) → StepsTo rules c b → HasFirstsUpTo len b =
        λ b step. category_has_first len shorter n b (λ chain. none (step_lengthens rules c b n step chain)) in
        let firsts = items_have_firsts len c r rule first.1.1 first.1.2 shorter below i j fits [] rule.items i refl (omega arith) (λ empty. All-nil (IsNullable rules)) ends.0 ends.1 in
        let no_lesser : NoLesserRule rules kinds r rule.category i j =
        λ lesser other less is same derives. first.2 lesser less (other, is, same ∙ first.1.2, derives) in
        let no_before : NoEndsBefore (from_left is_lesser) rules kinds (ends_of firsts.0) rule.items i j =
        same_ends_kept rule.items i j ends.0 firsts.0 firsts.2 ends.2 in
        (node r i j firsts.0, (rule, first.1.1, ap Category (sym first.1.2), firsts.1, refl, refl, no_lesser, no_before))

    module _ (acyclic : IsAcyclic rules) where
      -- spans of each length have first trees
      have_firsts : (len : ℕ) → HaveFirstsBelow len
      have_firsts zero s i j below d =
          absurd (omega (arith, below, (derives_within rules kinds s i j d).0))
      have_firsts (suc len) (Kind k) i j below d = kind_has_first k i j d
      have_firsts (suc len) (Category c) i j below d =
          category_has_first len (have_firsts len) (suc c + rules_bound rules) c
          (no_long_chain rules acyclic c) i j below d

      -- each derived span has a first tree
      pub derived_has_first : (s : Symbol) (i j : ℕ) → Derives rules kinds s i j → HasFirstTree s i j
      derived_has_first s i j d = have_firsts (suc j) s i j (omega arith) d
