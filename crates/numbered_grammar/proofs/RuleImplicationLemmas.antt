-- Rules as implications, and that the nullable categories are those that follow from them.
use Rattle.std.proofs.Common.{below_more, ◌≡◌, ℕ, zero, suc, ◌+◌, ◌<◌, ◌↔◌, inl, inr, List, [], ◌∷◌, ◌++◌, Bool, length, slice_get, slice_index_or, Some, refl, sym, ◌∙◌, ap, subst, arith}
use Rattle.std.specs.List.{Contains, AllByRecursion}
use Rattle.std.proofs.lemmas.Bool.{cases_lt}
use Rattle.std.proofs.lemmas.List.{get_or_append_left, get_or_push, get_or_default, length_push}
use Rattle.std.proofs.lemmas.List.Elements.{Contains-append_left, Contains-push, Contains-push_cases, All-contains}
use Rattle.std.proofs.lemmas.Option.{none-some, same_Some, slice_get_within}
use Rattle.spec_grammar.specs.declared.rule.Symbol.{Symbol}
use Rattle.spec_grammar.specs.declared.rule.Symbol.TheVariants.{Category, Kind}
use Rattle.spec_grammar.specs.declared.rule.Rule.{Rule}
use Rattle.spec_grammar.specs.Trees.{Tree, leaf, node, Forest, no_trees, trees}
use Rattle.spec_grammar.specs.Derivation.{IsParseTree, AreParseTrees, IsNullable}
use Rattle.spec_grammar.proofs.DerivationLemmas.{category_derives, nullable_items}
use Rattle.spec_grammar.specs.Grammars.{Grammar, IsSymbolOf, HasOwnSymbols}
use Rattle.number_graph.specs.Graphs.{HasLink, AreFlagsOf}
use Rattle.number_graph.specs.Implications.{ImplicationList, AddsImplication, AreNoImplications, AreImplicationsWithin, Follows, follows}
use Rattle.numbered_grammar.specs.Nullable.{AreNullableFlags}
use Rattle.numbered_grammar.specs.RuleImplications.{HasNoKinds, AreCategoryNumbers, AddsRule, IsImplicationOf, AreOfRules}

-- no items have no numbers
pub no_numbers : AreCategoryNumbers [] []
no_numbers = record {
  no_kinds = λ k has. absurd (omega (arith, has.1));
  exact = λ c. ((λ has. absurd (omega (arith, has.1))), (λ has. absurd (omega (arith, has.1))));
}

-- one category more has its number
pub numbers_more :
    (items : List Symbol) (numbers : List ℕ) (item : Symbol) (c : ℕ)
    → item ≡ Category c → AreCategoryNumbers items numbers
    → AreCategoryNumbers (items ++ item ∷ []) (numbers ++ c ∷ [])
numbers_more items numbers item c is before = record {
  no_kinds = λ k has. elim (Contains-push_cases items item (Kind k) has) [
    | inl earlier ↦ before.no_kinds k earlier
    | inr same ↦ differ k (sym same ∙ is)
  ];
  exact = λ n. (
    (λ has. elim (Contains-push_cases numbers c n has) [
      | inl earlier ↦ Contains-append_left items (item ∷ []) (Category n) ((before.exact n).0 earlier)
      | inr same ↦ subst (Contains (items ++ item ∷ [])) (is ∙ ap Category same) (Contains-push items item)
    ]),
    (λ has. elim (Contains-push_cases items item (Category n) has) [
      | inl earlier ↦ Contains-append_left numbers (c ∷ []) n ((before.exact n).1 earlier)
      | inr same ↦ subst (Contains (numbers ++ c ∷ [])) (same_number n (sym is ∙ same)) (Contains-push numbers c)
    ]),
  );
}
  where
    differ : (k : ℕ) → Kind k ≡ Category c → ⊥
    differ k same = cc

    same_number : (n : ℕ) → Category c ≡ Category n → c ≡ n
    same_number n same = cc

-- lists of the same members are the numbers of the same items
numbers_alike :
    (items : List Symbol) (old new : List ℕ)
    → ((c : ℕ) → Contains new c ↔ Contains old c) → AreCategoryNumbers items old → AreCategoryNumbers items new
numbers_alike items old new alike are = record {
  no_kinds = are.no_kinds;
  exact = λ c. (
    (λ has. (are.exact c).0 ((alike c).0 has)),
    (λ has. (alike c).1 ((are.exact c).1 has)),
  );
}

-- of no rules there are no implications
pub rules_start : (rules : List Rule) (implications : ImplicationList) → AreNoImplications implications → AreOfRules rules 0 implications
rules_start rules implications none = record {
  placed = λ i p has.
      let past = subst (λ xs. HasLink xs i p) none.0 has in
      absurd (omega (arith, past.1));
  sound = λ i within.
      let past = subst (λ xs. i < length xs) none.1 within in
      absurd (omega (arith, past));
  each = λ r rule below. absurd (omega (arith, below));
}

module _ (rules : List Rule) (n : ℕ) (rule : Rule) (old new : ImplicationList)
    (is : slice_get rules n ≡ Some rule) (all : AreOfRules rules n old) where
  module _ (numbers : List ℕ) (adds : AddsImplication old new numbers rule.category) where
    -- there is one implication more
    one_more : length new.conclusions ≡ length old.conclusions + 1
    one_more = ap length adds.conclusions ∙ length_push old.conclusions rule.category

    -- the implications of other rules are kept
    kept : (other : Rule) (i : ℕ) → IsImplicationOf other old i → IsImplicationOf other new i
    kept other i before = record {
      within = omega (arith, before.within, one_more);
      conclusion =
          ap (λ xs. slice_index_or xs i 0) adds.conclusions
          ∙ get_or_append_left old.conclusions (rule.category ∷ []) 0 i before.within ∙ before.conclusion;
      premises =
          numbers_alike other.items (slice_index_or old.premises i []) (slice_index_or new.premises i [])
          (λ p. (
            (λ has. elim ((adds.premises i p).0 has) [
              | inl had ↦ had
              | inr (place, among) ↦ absurd (omega (arith, place, before.within))
            ]),
            (λ has. (adds.premises i p).1 (inl has)),
          ))
          before.premises;
    }

    -- the last implication is that of the rule
    own : AreCategoryNumbers rule.items numbers → IsImplicationOf rule new (length old.conclusions)
    own are = record {
      within = omega (arith, one_more);
      conclusion =
          ap (λ xs. slice_index_or xs (length old.conclusions) 0) adds.conclusions
          ∙ get_or_push old.conclusions rule.category 0 (length old.conclusions) refl;
      premises =
          numbers_alike rule.items numbers (slice_index_or new.premises (length old.conclusions) [])
          (λ p. (
            (λ has. elim ((adds.premises (length old.conclusions) p).0 has) [
              | inl had ↦ absurd (omega (arith, all.placed (length old.conclusions) p had))
              | inr (place, among) ↦ among
            ]),
            (λ has. (adds.premises (length old.conclusions) p).1 (inr (refl, has))),
          ))
          are;
    }

    -- with the implication of one rule more, they are those of one rule more
    with_own : AreCategoryNumbers rule.items numbers → AreOfRules rules (n + 1) new
    with_own are = record {
      placed = λ i p has. elim ((adds.premises i p).0 has) [
        | inl had ↦ omega (arith, all.placed i p had, one_more)
        | inr (place, among) ↦ omega (arith, place, one_more)
      ];
      sound = λ i within. elim (cases_lt i (length old.conclusions)) [
        | inl earlier ↦
            let x = all.sound i earlier in
            (x.0, x.1, x.2, kept x.1 i x.3)
        | inr last ↦
            let same : length old.conclusions ≡ i = omega (arith, last, within, one_more) in
            (n, rule, is, subst (IsImplicationOf rule new) same (own are))
      ];
      each = λ r x below at none. below_more Has n
          (λ k earlier y at_k clear.
          let x = all.each k y earlier at_k clear in
          (x.0, kept y x.0 x.1))
          (λ y at_n clear. subst (λ z. (i : ℕ) × IsImplicationOf z new i) (same_Some rule y (sym is ∙ at_n)) (length old.conclusions, own are))
          r below x at none;
    }
      where
        Has : ℕ → Type 0
        Has k = (y : Rule) → slice_get rules k ≡ Some y → HasNoKinds y.items → (i : ℕ) × IsImplicationOf y new i

  -- one rule more, with its implication or with a kind
  pub rules_more : AddsRule old new rule → AreOfRules rules (n + 1) new
  rules_more (inl (numbers, are, adds)) = with_own numbers adds are
  rules_more (inr (kind, has, same)) = rw same (record {
    placed = all.placed;
    sound = all.sound;
    each = λ r x below at none. below_more Has n
        (λ k earlier y at_k clear. all.each k y earlier at_k clear)
        (λ y at_n clear. absurd (clear kind (subst (λ z. Contains z.items (Kind kind)) (same_Some rule y (sym is ∙ at_n)) has)))
        r below x at none;
  })
    where
      Has : ℕ → Type 0
      Has k = (y : Rule) → slice_get rules k ≡ Some y → HasNoKinds y.items → (i : ℕ) × IsImplicationOf y old i

-- where each of the items is nullable, they all are
each_nullable :
    (rules : List Rule) (items : List Symbol)
    → ((s : Symbol) → Contains items s → IsNullable rules s) → AllByRecursion (IsNullable rules) items
each_nullable rules [] each = tt
each_nullable rules (s ∷ items) each = (
  each s (0, omega arith, refl),
  each_nullable rules items (λ x has. each x (suc has.0, omega (arith, has.1), has.2)),
)

module _ (g : Grammar) (implications : ImplicationList) (all : AreOfRules g.rules (length g.rules) implications) where
  -- the implications are between categories of the grammar
  pub between_categories : HasOwnSymbols g → AreImplicationsWithin (length g.categories) implications
  between_categories own_symbols = record {
    premises = λ i p has.
        let x = all.sound i (all.placed i p has) in
        All-contains (IsSymbolOf g) x.1.items (Category p) (own_symbols x.0 x.1 x.2).1 ((x.3.premises.exact p).0 has);
    conclusions = λ c has.
        let x = all.sound has.0 has.1 in
        let same : x.1.category ≡ c =
        sym x.3.conclusion ∙ sym (get_or_default implications.conclusions has.0 c 0 has.1) ∙ has.2 in
        subst (λ k. k < length g.categories) same (own_symbols x.0 x.1 x.2).0;
  }

  -- where the premises of a rule's implication are nullable, its items are
  item_nullable :
      (rule : Rule) (i : ℕ)
      → IsImplicationOf rule implications i
      → ((p : ℕ) → HasLink implications.premises i p → IsNullable g.rules (Category p))
      → (s : Symbol) → Contains rule.items s → IsNullable g.rules s
  item_nullable rule i of_rule each (Kind k) has = absurd (of_rule.premises.no_kinds k has)
  item_nullable rule i of_rule each (Category p) has = each p ((of_rule.premises.exact p).1 has)

  -- a category that follows is nullable
  follows_nullable : (c : ℕ) → Follows implications c → IsNullable g.rules (Category c)
  follows_nullable c (follows i within is premises) =
      let x = all.sound i within in
      let items = item_nullable x.1 i x.3 (λ p link. follows_nullable p (premises p link)) in
      let derive = (nullable_items g.rules x.1.items).1 (each_nullable g.rules x.1.items items) in
      (category_derives g.rules [] c 0 0).1 (x.0, x.1, x.2, sym x.3.conclusion ∙ is, derive)

  -- the symbol is a category that follows
  abbrev SymbolFollows : Symbol → Type 0
  SymbolFollows (Category c) = Follows implications c
  SymbolFollows (Kind k) = ⊥

  -- where the first of some symbols follows and each of the others, each of them does
  each_follows :
      (first : Symbol) (others : List Symbol)
      → SymbolFollows first → ((s : Symbol) → Contains others s → SymbolFollows s)
      → (s : Symbol) → Contains (first ∷ others) s → SymbolFollows s
  each_follows first others own each s (zero, within, same) = subst SymbolFollows same own
  each_follows first others own each s (suc k, within, same) = each s (k, omega (arith, within), same)

  mutual
    -- the symbol of a tree over no token is a category that follows
    tree_follows : (t : Tree) (s : Symbol) (i j : ℕ) → IsParseTree g.rules [] t s i j → SymbolFollows s
    tree_follows (leaf kind first end) s i j is = absurd (none-some _ is.1)
    tree_follows (node r first end subtrees) s i j is =
        let rule = is.0 in
        let each = forest_follows subtrees rule.items i j is.3 in
        let x = all.each r rule (slice_get_within g.rules r rule is.1) is.1 (λ k has. each (Kind k) has) in
        rw is.2 (follows x.0 x.1.within x.1.conclusion (λ p link. each (Category p) ((x.1.premises.exact p).0 link)))

    -- and so is that of each of the trees side by side
    forest_follows :
        (ts : Forest) (items : List Symbol) (i j : ℕ)
        → AreParseTrees g.rules [] ts items i j → (s : Symbol) → Contains items s → SymbolFollows s
    forest_follows no_trees items i j are s has =
        let none = subst (λ xs. Contains xs s) are.0 has in
        absurd (omega (arith, none.1))
    forest_follows (trees t ts) items i j are s has =
        each_follows are.0 are.1 (tree_follows t are.0 i are.2 are.4) (forest_follows ts are.1 are.2 j are.5) s
        (subst (λ xs. Contains xs s) are.3 has)

  -- so the flags of what follows are those of the nullable categories
  pub flags_of_following :
      (flags : List Bool) → AreFlagsOf (length g.categories) (Follows implications) flags → AreNullableFlags g flags
  flags_of_following flags are = record {
    count = are.count;
    exact = λ c below. (
      (λ is. follows_nullable c ((are.exact c).0 is)),
      (λ d. (are.exact c).1 (tree_follows d.0 (Category c) 0 0 d.1)),
    );
  }
