-- Laws of derivation: how far a tree reaches, empty spans, and one step down a tree.
use Rattle.std.proofs.Common.{◌≡◌, ℕ, ◌+◌, ◌-◌, ◌<◌, ◌≤◌, ◌⊎◌, ◌↔◌, List, [], ◌∷◌, Option, Some, length, slice_get, refl, sym, subst, ◌∙◌, ap, inl, inr, arith}
use Rattle.std.specs.List.{AllByRecursion}
use Rattle.std.proofs.lemmas.Option.{slice_get_within}
use Rattle.spec_grammar.specs.declared.rule.Symbol.{Symbol}
use Rattle.spec_grammar.specs.declared.rule.Symbol.TheVariants.{Category, Kind}
use Rattle.spec_grammar.specs.declared.rule.Rule.{Rule}
use Rattle.spec_grammar.specs.Trees.{Tree, leaf, node, Forest, no_trees, trees}
use Rattle.spec_grammar.specs.Derivation.{IsParseTree, AreParseTrees, Derives, DerivesAll, IsNullable}
use Rattle.spec_grammar.specs.Laws.{IsSpanWithin, HasKindAt, DerivesByRule, DeriveInTurn}

-- no rule has an empty right side
abbrev pub AreFull : List Rule → Type 0
AreFull rules = (r : ℕ) (rule : Rule) → slice_get rules r ≡ Some rule → rule.items ≡ [] → ⊥

-- a place is before another, or it is not
before_or_not : (m n : ℕ) → (m < n) ⊎ (n ≤ m)
before_or_not m n = grind arith

module _ (rules : List Rule) where
  module _ (kinds : List (Option ℕ)) where
    mutual
      -- a tree's span does not run backwards
      pub tree_ordered : (t : Tree) (s : Symbol) (i j : ℕ) → IsParseTree rules kinds t s i j → i ≤ j
      tree_ordered (leaf kind first end) s i j is = omega (arith, is.2)
      tree_ordered (node r first end subtrees) s i j is = forest_ordered subtrees (is.0).items i j is.3

      -- nor does the span of trees side by side
      pub forest_ordered :
          (ts : Forest) (items : List Symbol) (i j : ℕ)
          → AreParseTrees rules kinds ts items i j → i ≤ j
      forest_ordered no_trees items i j are = omega (arith, are.1)
      forest_ordered (trees t ts) items i j are =
          let front : i ≤ are.2 = tree_ordered t are.0 i are.2 are.4 in
          let back : are.2 ≤ j = forest_ordered ts are.1 are.2 j are.5 in
          omega arith

    mutual
      -- each token under a tree has a kind
      pub tree_kinds :
          (t : Tree) (s : Symbol) (i j place : ℕ)
          → IsParseTree rules kinds t s i j → i ≤ place → place < j → HasKindAt kinds place
      tree_kinds (leaf kind first end) s i j place is from below =
          let here : i ≡ place = omega (arith, is.2) in
          (kind, ap (λ n. slice_get kinds n) (sym here) ∙ is.1)
      tree_kinds (node r first end subtrees) s i j place is from below =
          forest_kinds subtrees (is.0).items i j place is.3 from below

      -- and so has each under trees side by side
      pub forest_kinds :
          (ts : Forest) (items : List Symbol) (i j place : ℕ)
          → AreParseTrees rules kinds ts items i j → i ≤ place → place < j
          → HasKindAt kinds place
      forest_kinds no_trees items i j place are from below = absurd (omega (arith, are.1))
      forest_kinds (trees t ts) items i j place are from below =
          elim (before_or_not place are.2) [
            | inl front ↦ tree_kinds t are.0 i are.2 place are.4 from front
            | inr back ↦ forest_kinds ts are.1 are.2 j place are.5 back below
          ]

    -- the last token of a span that is not empty is one of the text
    last_within :
        (i j : ℕ)
        → i < j → ((place : ℕ) → i ≤ place → place < j → HasKindAt kinds place)
        → j ≤ length kinds
    last_within i j order each =
        let last : HasKindAt kinds (j - 1) = each (j - 1) (omega arith) (omega arith) in
        let within : j - 1 < length kinds = slice_get_within kinds (j - 1) (Some last.0) last.1 in
        omega arith

    -- what a symbol derives is a span within the text
    pub derives_within : (s : Symbol) (i j : ℕ) → Derives rules kinds s i j → IsSpanWithin kinds i j
    derives_within s i j d =
        let each = λ (place : ℕ). tree_kinds d.0 s i j place d.1 in
        (tree_ordered d.0 s i j d.1, (λ order. last_within i j order each))

    -- what items derive is a span within the text
    pub derives_all_within :
        (items : List Symbol) (i j : ℕ)
        → DerivesAll rules kinds items i j → IsSpanWithin kinds i j
    derives_all_within items i j d =
        let each = λ (place : ℕ). forest_kinds d.0 items i j place d.1 in
        (forest_ordered d.0 items i j d.1, (λ order. last_within i j order each))

    -- each token of a derived span has a kind
    pub derives_kinds :
        (s : Symbol) (i j place : ℕ)
        → Derives rules kinds s i j → i ≤ place → place < j → HasKindAt kinds place
    derives_kinds s i j place d from below = tree_kinds d.0 s i j place d.1 from below

    -- a kind derives the spans of one token of its own
    pub kind_derives :
        (k i j : ℕ)
        → Derives rules kinds (Kind k) i j ↔ (slice_get kinds i ≡ Some (Some k)) × (j ≡ i + 1)
    kind_derives k i j = (
      (λ d. leaf_of d.0 d.1),
      (λ is. (leaf k i j, (refl, is.0, is.1, refl, refl))),
    )
      where
        leaf_of :
            (t : Tree)
            → IsParseTree rules kinds t (Kind k) i j
            → (slice_get kinds i ≡ Some (Some k)) × (j ≡ i + 1)
        leaf_of (leaf kind first end) is =
            let same : kind ≡ k = cc in
            ((rw (← same) is.1), is.2)
        leaf_of (node r first end subtrees) is = absurd (cc)

    -- a category derives what the items of one of its rules derive
    pub category_derives :
        (c i j : ℕ)
        → Derives rules kinds (Category c) i j ↔ DerivesByRule rules kinds c i j
    category_derives c i j = (
      (λ d. rule_of_node d.0 d.1),
      (λ x. (node x.0 i j x.4.0, (x.1, x.2, ap Category (sym x.3), x.4.1, refl, refl))),
    )
      where
        rule_of_node :
            (t : Tree)
            → IsParseTree rules kinds t (Category c) i j → DerivesByRule rules kinds c i j
        rule_of_node (leaf kind first end) is = absurd (cc)
        rule_of_node (node r first end subtrees) is =
            let same : (is.0).category ≡ c = cc in
            (r, is.0, is.1, same, (subtrees, is.3))

    -- an empty list of items derives the empty spans, and no others
    pub none_derive : (i j : ℕ) → DerivesAll rules kinds [] i j ↔ j ≡ i
    none_derive i j = ((λ d. empty_of d.0 d.1), (λ e. (no_trees, (refl, e))))
      where
        empty_of : (ts : Forest) → AreParseTrees rules kinds ts [] i j → j ≡ i
        empty_of no_trees are = are.1
        empty_of (trees t ts) are = absurd (cc)

    -- items derive a span where the first derives a front part of it, and the others the rest
    pub some_derive :
        (s : Symbol) (rest : List Symbol) (i j : ℕ)
        → DerivesAll rules kinds (s ∷ rest) i j ↔ DeriveInTurn rules kinds s rest i j
    some_derive s rest i j = (
      (λ d. parts_of d.0 d.1),
      (λ x. (trees x.1.0 x.2.0, (s, rest, x.0, refl, x.1.1, x.2.1))),
    )
      where
        parts_of :
            (ts : Forest)
            → AreParseTrees rules kinds ts (s ∷ rest) i j → DeriveInTurn rules kinds s rest i j
        parts_of no_trees are = absurd (cc)
        parts_of (trees t ts) are =
            let same : are.0 ≡ s = cc in
            let others : are.1 ≡ rest = cc in
            (are.2, (t, (rw same at are.4)), (ts, (rw others at are.5)))

  -- where no right side is empty, a derived span is not empty
  module _ (kinds : List (Option ℕ)) (full : AreFull rules) where
    mutual
      tree_grows : (t : Tree) (s : Symbol) (i j : ℕ) → IsParseTree rules kinds t s i j → i < j
      tree_grows (leaf kind first end) s i j is = omega (arith, is.2)
      tree_grows (node r first end subtrees) s i j is =
          forest_grows subtrees (is.0).items i j (full r is.0 is.1) is.3

      forest_grows :
          (ts : Forest) (items : List Symbol) (i j : ℕ)
          → (items ≡ [] → ⊥) → AreParseTrees rules kinds ts items i j → i < j
      forest_grows no_trees items i j some are = absurd (some are.0)
      forest_grows (trees t ts) items i j some are =
          let front : i < are.2 = tree_grows t are.0 i are.2 are.4 in
          let back : are.2 ≤ j = forest_ordered kinds ts are.1 are.2 j are.5 in
          omega arith

    pub derives_grows : (s : Symbol) (i j : ℕ) → Derives rules kinds s i j → i < j
    derives_grows s i j d = tree_grows d.0 s i j d.1

  mutual
    -- a tree over an empty span has no token, so one like it stands at any place of any text
    pub tree_anywhere :
        (kinds other : List (Option ℕ)) (t : Tree) (s : Symbol) (i j n : ℕ)
        → IsParseTree rules kinds t s i j → j ≤ i → Derives rules other s n n
    tree_anywhere kinds other (leaf kind first end) s i j n is empty = absurd (omega (arith, is.2))
    tree_anywhere kinds other (node r first end subtrees) s i j n is empty =
        let moved : DerivesAll rules other (is.0).items n n =
        forest_anywhere kinds other subtrees (is.0).items i j n is.3 empty in
        (node r n n moved.0, (is.0, is.1, is.2, moved.1, refl, refl))

    -- and so do trees side by side
    pub forest_anywhere :
        (kinds other : List (Option ℕ)) (ts : Forest) (items : List Symbol) (i j n : ℕ)
        → AreParseTrees rules kinds ts items i j → j ≤ i → DerivesAll rules other items n n
    forest_anywhere kinds other no_trees items i j n are empty = (no_trees, (are.0, refl))
    forest_anywhere kinds other (trees t ts) items i j n are empty =
        let front : i ≤ are.2 = tree_ordered kinds t are.0 i are.2 are.4 in
        let back : are.2 ≤ j = forest_ordered kinds ts are.1 are.2 j are.5 in
        let first : Derives rules other are.0 n n =
        tree_anywhere kinds other t are.0 i are.2 n are.4 (omega arith) in
        let others : DerivesAll rules other are.1 n n =
        forest_anywhere kinds other ts are.1 are.2 j n are.5 (omega arith) in
        (trees first.0 others.0, (are.0, are.1, n, are.3, first.1, others.1))

  -- a nullable symbol derives each empty span, and what derives one is nullable
  pub nullable_derives :
      (kinds : List (Option ℕ)) (s : Symbol) (i : ℕ)
      → IsNullable rules s ↔ Derives rules kinds s i i
  nullable_derives kinds s i = (
    (λ d. tree_anywhere [] kinds d.0 s 0 0 i d.1 (omega arith)),
    (λ d. tree_anywhere kinds [] d.0 s i i 0 d.1 (omega arith)),
  )

  -- items derive the empty span exactly where each of them is nullable
  pub nullable_items :
      (items : List Symbol)
      → DerivesAll rules [] items 0 0 ↔ AllByRecursion (IsNullable rules) items
  nullable_items [] = ((λ d. tt), (λ each. (none_derive [] 0 0).1 refl))
  nullable_items (s ∷ rest) = (
    (λ d.
        let parts = parts_of ((some_derive [] s rest 0 0).0 d) in
        (parts.0, (nullable_items rest).0 parts.1)),
    (λ each. (some_derive [] s rest 0 0).1 (0, each.0, (nullable_items rest).1 each.1)),
  )
    where
      parts_of : DeriveInTurn rules [] s rest 0 0 → IsNullable rules s × DerivesAll rules [] rest 0 0
      parts_of d =
          let here : d.0 ≡ 0 = omega (arith, (derives_all_within [] rest d.0 0 d.2).0) in
          let first : ℕ → Type 0 = λ k. Derives rules [] s 0 k in
          let others : ℕ → Type 0 = λ k. DerivesAll rules [] rest k 0 in
          (subst first here d.1, subst others here d.2)
