-- The closure of unit steps and products is derivation: what derives a span is given by its token or by
-- a cut of it, by the parse tree, and what is given so is derived, step by step.
use Rattle.std.proofs.Common.{◌≡◌, ℕ, ◌<◌, ◌≤◌, ◌⊎◌, List, ◌∷◌, Option, Some, slice_get, drop, suc, refl, ◌∙◌, ap, subst, inl, inr, arith}
use Rattle.spec_grammar.specs.declared.rule.Symbol.{Symbol}
use Rattle.spec_grammar.specs.declared.rule.Symbol.TheVariants.{Category, Kind}
use Rattle.spec_grammar.specs.declared.rule.Rule.{Rule}
use Rattle.spec_grammar.specs.Trees.{Tree, leaf, node, Forest, no_trees, trees}
use Rattle.spec_grammar.specs.Derivation.{IsParseTree, AreParseTrees, Derives, DerivesAll}
use Rattle.spec_grammar.proofs.DerivationLemmas.{forest_ordered, tree_ordered, kind_derives, category_derives, some_derive, nullable_derives}
use Rattle.binary_form.specs.Symbols.{BinarySymbol, plain, suffix, BinaryDerives}
use Rattle.binary_form.specs.UnitSteps.{HasItem, UnitStep, whole_side, last_item, passed_item, Reaches}
use Rattle.number_graph.specs.Graphs.{stay, step}
use Rattle.binary_form.specs.Laws.{IsOfToken, IsOfCut, ClosureIsDerivation}
use Rattle.binary_form.proofs.ItemLemmas.{drop_behind, same_rule, items_behind}
use Rattle.binary_form.proofs.EmptySpanLemmas.{items_nullable, nullable_items}

-- a cut of a span lies within it, or at one of its ends
cut_cases :
    (i k j : ℕ) → i ≤ k → k ≤ j → ((i < k) × (k < j)) ⊎ ((k ≡ i) ⊎ (k ≡ j))
cut_cases i k j from to = grind arith

module _ (rules : List Rule) where
  module _ (kinds : List (Option ℕ)) where
    -- a suffix derives what its first item and the items behind it derive in turn
    suffix_joined :
        (r p : ℕ) (s : Symbol) (behind : List Symbol) (i k j : ℕ)
        → HasItem rules r p s behind → Derives rules kinds s i k
        → DerivesAll rules kinds behind k j → BinaryDerives rules kinds (suffix r p) i j
    suffix_joined r p s behind i k j has first others =
        let whole : DerivesAll rules kinds (s ∷ behind) i j =
        (some_derive rules kinds s behind i j).1 (k, first, others) in
        (has.rule, has.is_rule, (rw has.is_item whole))

    -- what the suffix behind an item derives, the items behind it derive
    behind_derives :
        (r p : ℕ) (s : Symbol) (behind : List Symbol) (i j : ℕ)
        → HasItem rules r p s behind → BinaryDerives rules kinds (suffix r (suc p)) i j
        → DerivesAll rules kinds behind i j
    behind_derives r p s behind i j has d =
        let items : drop (suc p) (d.0).items ≡ behind =
        items_behind rules r p s behind d.0 has d.1 in
        rw items at d.2

    -- what the items behind an item derive, the suffix behind it derives
    derives_behind :
        (r p : ℕ) (s : Symbol) (behind : List Symbol) (i j : ℕ)
        → HasItem rules r p s behind → DerivesAll rules kinds behind i j
        → BinaryDerives rules kinds (suffix r (suc p)) i j
    derives_behind r p s behind i j has d =
        let same : drop (suc p) (has.rule).items ≡ behind =
        items_behind rules r p s behind has.rule has has.is_rule in
        (has.rule, has.is_rule, (rw same d))

    -- a unit step keeps derivation
    pub step_derives :
        (a b : BinarySymbol) (i j : ℕ)
        → UnitStep rules a b → BinaryDerives rules kinds a i j → BinaryDerives rules kinds b i j
    step_derives a b i j (whole_side {r = r} {rule = rule} is) d =
        let same : (d.0).category ≡ rule.category =
        ap (λ (x : Rule). x.category) (same_rule rules r d.0 rule d.1 is) in
        (category_derives rules kinds rule.category i j).1 (r, d.0, d.1, same, d.2)
    step_derives a b i j (last_item {r = r} {p = p} {s = s} {behind = behind} has empty) d =
        suffix_joined r p s behind i j j has d (nullable_items rules kinds behind j empty)
    step_derives a b i j (passed_item {r = r} {p = p} {s = s} {behind = behind} has empty) d =
        suffix_joined r p s behind i i j has ((nullable_derives rules kinds s i).0 empty)
        (behind_derives r p s behind i j has d)

    -- so do unit steps, one after another
    pub reaches_derives :
        (a b : BinarySymbol) (i j : ℕ)
        → Reaches rules a b → BinaryDerives rules kinds a i j → BinaryDerives rules kinds b i j
    reaches_derives a b i j stay d = d
    reaches_derives a c i j (step {b = b} before last) d =
        step_derives b c i j last (reaches_derives a b i j before d)

    -- the span's token gives the symbol, or a cut of the span does
    abbrev pub IsGiven : BinarySymbol → ℕ → ℕ → Type 0
    IsGiven s i j = IsOfToken rules kinds s i j ⊎ IsOfCut rules kinds s i j

    -- what is given is derived
    pub given_derives :
        (s : BinarySymbol) (i j : ℕ) → IsGiven s i j → BinaryDerives rules kinds s i j
    given_derives s i j (inl token) =
        let d : Derives rules kinds (Kind token.0) i j =
        (kind_derives rules kinds token.0 i j).1 (token.1, token.2) in
        reaches_derives (plain (Kind token.0)) s i j token.3 d
    given_derives s i j (inr cut) =
        let x = cut.3 in
        let others = behind_derives x.r x.p x.item x.behind cut.0 j x.has x.on_right in
        let whole = suffix_joined x.r x.p x.item x.behind i cut.0 j x.has x.on_left others in
        reaches_derives (suffix x.r x.p) s i j x.reaches whole

    -- a unit step from what is given gives the other symbol
    step_given :
        (a b : BinarySymbol) (i j : ℕ) → UnitStep rules a b → IsGiven a i j → IsGiven b i j
    step_given a b i j last (inl token) = inl (token.0, token.1, token.2, step token.3 last)
    step_given a b i j last (inr cut) =
        let x = cut.3 in
        inr (
          cut.0,
          cut.1,
          cut.2,
          record {
            r = x.r;
            p = x.p;
            item = x.item;
            behind = x.behind;
            has = x.has;
            on_left = x.on_left;
            on_right = x.on_right;
            reaches = step x.reaches last;
          },
        )

    -- a suffix is given where its first item and the suffix behind it are, each over a part with a token
    suffix_given :
        (r p : ℕ) (s : Symbol) (behind : List Symbol) (i k j : ℕ)
        → HasItem rules r p s behind → Derives rules kinds s i k
        → DerivesAll rules kinds behind k j → i ≤ k → k ≤ j → i < j
        → (i < k → IsGiven (plain s) i k) → (k < j → IsGiven (suffix r (suc p)) k j)
        → IsGiven (suffix r p) i j
    suffix_given r p s behind i k j has first others from to order item rest =
        elim (cut_cases i k j from to) [
          | inl within ↦ inr (
            k,
            within.0,
            within.1,
            record {
              r = r;
              p = p;
              item = s;
              behind = behind;
              has = has;
              on_left = first;
              on_right = derives_behind r p s behind k j has others;
              reaches = stay;
            },
          )
          | inr (inl at_start) ↦
              let Empty : ℕ → Type 0 = λ n. Derives rules kinds s i n in
              let empty = (nullable_derives rules kinds s i).1 (subst Empty at_start first) in
              let Given : ℕ → Type 0 = λ n. IsGiven (suffix r (suc p)) n j in
              let given = subst Given at_start (rest (omega arith)) in
              step_given (suffix r (suc p)) (suffix r p) i j (passed_item has empty) given
          | inr (inr at_end) ↦
              let Empty : ℕ → Type 0 = λ n. DerivesAll rules kinds behind n j in
              let empty = items_nullable rules kinds behind j (subst Empty at_end others) in
              let Given : ℕ → Type 0 = λ n. IsGiven (plain s) i n in
              let given = subst Given at_end (item (omega arith)) in
              step_given (plain s) (suffix r p) i j (last_item has empty) given
        ]

    mutual
      -- the root of a tree over a span that is not empty is given
      tree_given :
          (t : Tree) (s : Symbol) (i j : ℕ)
          → IsParseTree rules kinds t s i j → i < j → IsGiven (plain s) i j
      tree_given (leaf kind first end) s i j is order = inl (kind, is.1, is.2, (rw is.0 stay))
      tree_given (node r first end subtrees) s i j is order =
          let whole = forest_given subtrees r 0 is.0 is.1 (is.0).items refl i j is.3 order in
          let category : BinarySymbol = plain (Category (is.0).category) in
          rw is.2 (step_given (suffix r 0) category i j (whole_side is.1) whole)

      -- so is the suffix whose items have trees side by side there
      forest_given :
          (ts : Forest) (r p : ℕ) (rule : Rule) → slice_get rules r ≡ Some rule
          → (items : List Symbol) → drop p rule.items ≡ items → (i j : ℕ)
          → AreParseTrees rules kinds ts items i j → i < j → IsGiven (suffix r p) i j
      forest_given no_trees r p rule is items from i j are order = absurd (omega (arith, are.1))
      forest_given (trees t ts) r p rule is items from i j are order =
          let has : HasItem rules r p are.0 are.1 =
          record { rule = rule; is_rule = is; is_item = from ∙ are.3 } in
          let next : drop (suc p) rule.items ≡ are.1 =
          drop_behind rule.items p are.0 are.1 (from ∙ are.3) in
          suffix_given r p are.0 are.1 i are.2 j has (t, are.4) (ts, are.5)
          (tree_ordered rules kinds t are.0 i are.2 are.4)
          (forest_ordered rules kinds ts are.1 are.2 j are.5)
          order
          (λ some. tree_given t are.0 i are.2 are.4 some)
          (λ some. forest_given ts r (suc p) rule is are.1 next are.2 j are.5 some)

    -- what derives a span that is not empty is given
    pub derives_given :
        (s : BinarySymbol) (i j : ℕ) → i < j → BinaryDerives rules kinds s i j → IsGiven s i j
    derives_given (plain s) i j order d = tree_given d.0 s i j d.1 order
    derives_given (suffix r p) i j order d =
        forest_given d.2.0 r p d.0 d.1 (drop p (d.0).items) refl i j d.2.1 order

-- over a span that is not empty, derivation is what a token or a cut gives
pub closure_is_derivation : ClosureIsDerivation
closure_is_derivation rules kinds s i j order =
    (derives_given rules kinds s i j order, given_derives rules kinds s i j)
