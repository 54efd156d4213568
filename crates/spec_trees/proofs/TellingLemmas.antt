-- It can be told whether a symbol derives a span. Spans are taken by their lengths. Over one span the
-- categories that derive it are found one by one, each by a rule whose items derive parts of the span
-- or are categories found before; what no rule adds does not derive it.
use Rattle.std.proofs.Common.{◌≡◌, ℕ, zero, suc, ◌+◌, ◌<◌, ◌≤◌, ◌⊎◌, inl, inr, List, [], ◌∷◌, ◌++◌, Option, Some, None, Bool, true, false, ◌||◌, length, slice_get, refl, sym, ◌∙◌, ap, subst, arith, eqb}
use Rattle.std.specs.List.{IsDistinct, list_any}
use Rattle.std.specs.Cmp.{nat_eq_equiv}
use Rattle.std.proofs.lemmas.Bool.{eqb-true}
use Rattle.std.proofs.lemmas.List.{length_push}
use Rattle.std.proofs.lemmas.List.Folds.{list_any-append}
use Rattle.std.proofs.lemmas.Map.Keys.{IsDistinct-push}
use Rattle.std.proofs.lemmas.Map.Steps.{length-le_from_distinct_below}
use Rattle.std.proofs.lemmas.Option.{slice_get_within}
use Rattle.spec_grammar.specs.declared.rule.Symbol.{Symbol}
use Rattle.spec_grammar.specs.declared.rule.Symbol.TheVariants.{Category, Kind}
use Rattle.spec_grammar.specs.declared.rule.Rule.{Rule}
use Rattle.spec_grammar.specs.Trees.{Tree, leaf, node, Forest, no_trees, trees}
use Rattle.spec_grammar.specs.Derivation.{IsParseTree, AreParseTrees, Derives, DerivesAll}
use Rattle.spec_grammar.proofs.DerivationLemmas.{derives_within, kind_derives, category_derives, none_derive, some_derive, tree_ordered, forest_ordered}
use Rattle.spec_trees.proofs.ToldLemmas.{IsToldOf, told_both, told_either, told_equal, told_less, told_below, below_or_not}

-- categories of rules are below a bound
rules_bound : List Rule → ℕ
rules_bound [] = 0
rules_bound (rule ∷ rules) = suc rule.category + rules_bound rules

category_below :
    (rules : List Rule) (r : ℕ) (rule : Rule)
    → slice_get rules r ≡ Some rule → rule.category < rules_bound rules
unfolding rules_bound
category_below [] r rule is = absurd (cc)
category_below (first ∷ rules) zero rule is =
    let same : first ≡ rule = cc in rw (← same) (omega arith)
category_below (first ∷ rules) (suc r) rule is =
    let less = category_below rules r rule is in omega (arith, less)

-- a test is passed, or it is not
passed_or_not : (b : Bool) → (b ≡ true) ⊎ (b ≡ false)
passed_or_not true = inl refl
passed_or_not false = inr refl

module _ (rules : List Rule) (kinds : List (Option ℕ)) where
  -- it is told of a kind whether it derives a span
  told_kind : (kind i j : ℕ) → IsToldOf (Derives rules kinds (Kind kind) i j)
  told_kind kind i j = by_token (slice_get kinds i) refl
    where
      by_end :
          (token : ℕ) → slice_get kinds i ≡ Some (Some token)
          → IsToldOf (token ≡ kind) → IsToldOf (j ≡ i + 1)
          → IsToldOf (Derives rules kinds (Kind kind) i j)
      by_end token is (inl same) (inl end) =
          inl ((kind_derives rules kinds kind i j).1 (is ∙ ap (λ n. Some (Some n)) same, end))
      by_end token is (inr other) end = inr (λ d.
          let own = ((kind_derives rules kinds kind i j).0 d).0 in
          other (cc))
      by_end token is same (inr elsewhere) =
          inr (λ d. elsewhere ((kind_derives rules kinds kind i j).0 d).1)

      by_token :
          (o : Option (Option ℕ)) → slice_get kinds i ≡ o
          → IsToldOf (Derives rules kinds (Kind kind) i j)
      by_token None is = inr (λ d. let own = ((kind_derives rules kinds kind i j).0 d).0 in cc)
      by_token (Some None) is = inr (λ d. let own = ((kind_derives rules kinds kind i j).0 d).0 in cc)
      by_token (Some (Some token)) is = by_end token is (told_equal token kind) (told_equal j (i + 1))

  -- it is told of each symbol and each shorter span
  abbrev HaveToldBelow : ℕ → Type 0
  HaveToldBelow len = (s : Symbol) (i j : ℕ) → j < i + len → IsToldOf (Derives rules kinds s i j)

  -- the span i..j, and categories that are found
  module _ (len : ℕ) (shorter : HaveToldBelow len) (i j : ℕ) (fits : j < i + suc len) (whole : i + len ≤ j) where
    -- the category is among those found
    abbrev IsFound : List ℕ → ℕ → Type 0
    IsFound found c = list_any (eqb c) found ≡ true

    -- the symbol derives a part of the span, or the whole of it by what is found
    abbrev Reached : List ℕ → Symbol → ℕ → ℕ → Type 0
    Reached found (Kind kind) a b = Derives rules kinds (Kind kind) a b
    Reached found (Category c) a b =
        ((b < a + len) × Derives rules kinds (Category c) a b)
        ⊎ (IsFound found c × ((a ≡ i) × (b ≡ j)))

    -- and so do the items, in turn
    abbrev AllReached : List ℕ → List Symbol → ℕ → Type 0
    AllReached found [] a = j ≡ a
    AllReached found (s ∷ rest) a = (k : ℕ) × Reached found s a k × AllReached found rest k

    -- each category that is found derives the span
    abbrev AreSound : List ℕ → Type 0
    AreSound found = (c : ℕ) → IsFound found c → Derives rules kinds (Category c) i j

    told_reached : (found : List ℕ) (s : Symbol) (a b : ℕ) → IsToldOf (Reached found s a b)
    told_reached found (Kind kind) a b = told_kind kind a b
    told_reached found (Category c) a b =
        told_either ((b < a + len) × Derives rules kinds (Category c) a b)
        (IsFound found c × ((a ≡ i) × (b ≡ j))) part all
      where
        part : IsToldOf ((b < a + len) × Derives rules kinds (Category c) a b)
        part = elim (told_less b (a + len)) [
          | inl less ↦ told_both (b < a + len) (Derives rules kinds (Category c) a b) (inl less) (shorter (Category c) a b less)
          | inr more ↦ inr (λ both. more both.0)
        ]

        is_found : (test : Bool) → list_any (eqb c) found ≡ test → IsToldOf (IsFound found c)
        is_found true is = inl is
        is_found false is = inr (λ found_it. cc)

        all : IsToldOf (IsFound found c × ((a ≡ i) × (b ≡ j)))
        all =
            told_both (IsFound found c) ((a ≡ i) × (b ≡ j)) (is_found (list_any (eqb c) found) refl)
            (told_both (a ≡ i) (b ≡ j) (told_equal a i) (told_equal b j))

    -- what is reached does not run backwards
    reached_ordered : (found : List ℕ) (s : Symbol) (a b : ℕ) → Reached found s a b → a ≤ b
    reached_ordered found (Kind kind) a b d = (derives_within rules kinds (Kind kind) a b d).0
    reached_ordered found (Category c) a b (inl part) =
        (derives_within rules kinds (Category c) a b part.1).0
    reached_ordered found (Category c) a b (inr all) = omega (arith, all.1.0, all.1.1, whole)

    all_reached_ordered : (found : List ℕ) (items : List Symbol) (a : ℕ) → AllReached found items a → a ≤ j
    all_reached_ordered found [] a end = omega (arith, end)
    all_reached_ordered found (s ∷ rest) a x =
        omega (arith, reached_ordered found s a x.0 x.1, all_reached_ordered found rest x.0 x.2)

    told_all_reached : (found : List ℕ) (items : List Symbol) (a : ℕ) → IsToldOf (AllReached found items a)
    told_all_reached found [] a = told_equal j a
    told_all_reached found (s ∷ rest) a =
        elim (told_below (λ k. Reached found s a k × AllReached found rest k) (λ k. told_both (Reached found s a k) (AllReached found rest k) (told_reached found s a k) (told_all_reached found rest k)) (suc j)) [
          | inl x ↦ inl (x.0, x.2.0, x.2.1)
          | inr none ↦ inr (λ x. none (x.0, omega (arith, all_reached_ordered found rest x.0 x.2), (x.1, x.2)))
        ]

    -- what is reached is derived
    reached_derives :
        (found : List ℕ) → AreSound found → (s : Symbol) (a b : ℕ)
        → Reached found s a b → Derives rules kinds s a b
    reached_derives found sound (Kind kind) a b d = d
    reached_derives found sound (Category c) a b (inl part) = part.1
    reached_derives found sound (Category c) a b (inr all) =
        let P : ℕ → ℕ → Type 0 = λ m n. Derives rules kinds (Category c) m n in
        subst (λ m. P m b) (sym all.1.0) (subst (λ n. P i n) (sym all.1.1) (sound c all.0))

    all_reached_derive :
        (found : List ℕ) → AreSound found → (items : List Symbol) (a : ℕ)
        → AllReached found items a → DerivesAll rules kinds items a j
    all_reached_derive found sound [] a end = (none_derive rules kinds a j).1 end
    all_reached_derive found sound (s ∷ rest) a x =
        (some_derive rules kinds s rest a j).1
        (x.0, reached_derives found sound s a x.0 x.1, all_reached_derive found sound rest x.0 x.2)

    -- the rule adds its category to those found
    abbrev Adds : List ℕ → ℕ → Type 0
    Adds found r =
        (rule : Rule) × (slice_get rules r ≡ Some rule)
        × (list_any (eqb rule.category) found ≡ false) × AllReached found rule.items i

    told_adds : (found : List ℕ) (r : ℕ) → IsToldOf (Adds found r)
    told_adds found r = by_rule (slice_get rules r) refl
      where
        by_test :
            (rule : Rule) → slice_get rules r ≡ Some rule
            → (list_any (eqb rule.category) found ≡ true) ⊎ (list_any (eqb rule.category) found ≡ false)
            → IsToldOf (AllReached found rule.items i) → IsToldOf (Adds found r)
        by_test rule is (inl old) all = inr (λ x.
            let one : x.0 ≡ rule = cc in
            let other : list_any (eqb rule.category) found ≡ false =
            subst (λ (y : Rule). list_any (eqb y.category) found ≡ false) one x.2 in
            cc)
        by_test rule is (inr new) (inl all) = inl (rule, is, new, all)
        by_test rule is (inr new) (inr none) = inr (λ x.
            let one : x.0 ≡ rule = cc in
            none (subst (λ (y : Rule). AllReached found y.items i) one x.3))

        by_rule : (o : Option Rule) → slice_get rules r ≡ o → IsToldOf (Adds found r)
        by_rule None is = inr (λ x. cc (x.1))
        by_rule (Some rule) is =
            by_test rule is (passed_or_not (list_any (eqb rule.category) found))
            (told_all_reached found rule.items i)

    -- no rule adds a category
    abbrev AreClosed : List ℕ → Type 0
    AreClosed found = (r : ℕ) → r < length rules → Adds found r → ⊥

    module _ (found : List ℕ) (closed : AreClosed found) where
      -- a rule whose items are reached adds nothing, so its category is found
      rule_found :
          (r : ℕ) (rule : Rule) → slice_get rules r ≡ Some rule → AllReached found rule.items i
          → IsFound found rule.category
      rule_found r rule is all = elim (passed_or_not (list_any (eqb rule.category) found)) [
        | inl old ↦ old
        | inr new ↦ absurd (closed r (slice_get_within rules r (rule) is) (rule, is, new, all))
      ]

      mutual
        -- what a tree covers within the span is reached
        tree_reached :
            (t : Tree) (s : Symbol) (a b : ℕ)
            → IsParseTree rules kinds t s a b → i ≤ a → b ≤ j → Reached found s a b
        tree_reached (leaf kind first end) s a b is from to =
            subst (λ x. Reached found x a b) (sym is.0)
            (leaf kind first end, (refl, is.1, is.2, is.3, is.4))
        tree_reached (node r first end subtrees) s a b is from to =
            subst (λ x. Reached found x a b) (sym is.2)
            (elim (below_or_not b (a + len)) [
              | inl part ↦ inl (part, (node r first end subtrees, (is.0, is.1, refl, is.3, is.4, is.5)))
              | inr all ↦
                  let begins : a ≡ i = omega (arith, fits, from, to, all) in
                  let ends : b ≡ j = omega (arith, fits, from, to, all) in
                  let items : AllReached found (is.0).items a =
                  forest_reached subtrees (is.0).items a b is.3 from ends in
                  inr (rule_found r is.0 is.1 (subst (λ m. AllReached found (is.0).items m) begins items), (begins, ends))
            ])

        -- and so is what trees cover up to its end
        forest_reached :
            (ts : Forest) (items : List Symbol) (a b : ℕ)
            → AreParseTrees rules kinds ts items a b → i ≤ a → b ≡ j → AllReached found items a
        forest_reached no_trees items a b are from end =
            subst (λ x. AllReached found x a) (sym are.0) (sym end ∙ are.1)
        forest_reached (trees t ts) items a b are from end =
            let order : a ≤ are.2 = tree_ordered rules kinds t are.0 a are.2 are.4 in
            let back : are.2 ≤ b = forest_ordered rules kinds ts are.1 are.2 b are.5 in
            subst (λ x. AllReached found x a) (sym are.3) (
              are.2,
              tree_reached t are.0 a are.2 are.4 from (omega (arith, back, end)),
              forest_reached ts are.1 are.2 b are.5 (omega (arith, from, order)) end,
            )

    -- categories that derive the span, to which no rule adds one
    abbrev IsComplete : Type 0
    IsComplete = (found : List ℕ) × AreSound found × AreClosed found

    -- each category that is found is below the bound
    abbrev AreBelow : List ℕ → Type 0
    AreBelow found = (c : ℕ) → IsFound found c → c < rules_bound rules

    -- a rule that adds its category to them
    module _ (found : List ℕ) (sound : AreSound found) (below : AreBelow found) (distinct : IsDistinct eqb found) (r : ℕ) (adds : Adds found r) where
      -- the category, and those found with it
      abbrev new : ℕ
      new = (adds.0).category

      abbrev longer : List ℕ
      longer = found ++ (new ∷ [])

      -- what is among these was found before, or is new
      found_cases : (c : ℕ) → IsFound longer c → IsFound found c ⊎ (c ≡ new)
      found_cases c is =
          by_tests (list_any (eqb c) found) (eqb c new) refl refl
          (sym (list_any-append (eqb c) found (new ∷ [])) ∙ is)
        where
          by_tests :
              (is_old is_new : Bool) → list_any (eqb c) found ≡ is_old → eqb c new ≡ is_new
              → (list_any (eqb c) found || (eqb c new || false)) ≡ true
              → IsFound found c ⊎ (c ≡ new)
          by_tests true is_new old own passed = inl old
          by_tests false true old own passed = inr (eqb-true c new own)
          by_tests false false old own passed = absurd (cc (rw (old, own) at passed))

      sound_more : AreSound longer
      sound_more c is = elim (found_cases c is) [
        | inl old ↦ sound c old
        | inr same ↦
            subst (λ n. Derives rules kinds (Category n) i j) (sym same)
            ((category_derives rules kinds new i j).1 (r, adds.0, adds.1, refl, all_reached_derive found sound (adds.0).items i adds.3))
      ]

      below_more : AreBelow longer
      below_more c is = elim (found_cases c is) [
        | inl old ↦ below c old
        | inr same ↦ omega (arith, same, category_below rules r adds.0 adds.1)
      ]

      distinct_more : IsDistinct eqb longer
      distinct_more = IsDistinct-push nat_eq_equiv found new distinct adds.2

      -- so there were fewer than the bound
      few_found : length found < rules_bound rules
      few_found =
          omega (
            arith,
            length-le_from_distinct_below longer (rules_bound rules) distinct_more below_more,
            length_push found new,
          )

    -- categories are added as long as a rule adds one, which ends at the bound
    found_all :
        (n : ℕ) (found : List ℕ) → AreSound found → AreBelow found → IsDistinct eqb found
        → rules_bound rules ≤ n + length found → IsComplete
    found_all zero found sound below distinct enough =
        elim (told_below (Adds found) (told_adds found) (length rules)) [
          | inr none ↦ (found, sound, (λ r less adds. none (r, less, adds)))
          | inl x ↦ absurd (omega (arith, enough, few_found found sound below distinct x.0 x.2))
        ]
    found_all (suc n) found sound below distinct enough =
        elim (told_below (Adds found) (told_adds found) (length rules)) [
          | inr none ↦ (found, sound, (λ r less adds. none (r, less, adds)))
          | inl x ↦
              found_all n (longer found sound below distinct x.0 x.2)
              (sound_more found sound below distinct x.0 x.2)
              (below_more found sound below distinct x.0 x.2)
              (distinct_more found sound below distinct x.0 x.2)
              (omega (arith, enough, length_push found (new found sound below distinct x.0 x.2)))
        ]

    -- so it is told of each category
    told_whole : (c : ℕ) → IsToldOf (Derives rules kinds (Category c) i j)
    unfolding IsDistinct
    told_whole c = by_found (found_all (rules_bound rules) [] (λ d is. absurd (cc)) (λ d is. absurd (cc)) tt (omega arith))
      where
        by_found : IsComplete → IsToldOf (Derives rules kinds (Category c) i j)
        by_found x = elim (passed_or_not (list_any (eqb c) x.0)) [
          | inl is ↦ inl (x.1 c is)
          | inr not_it ↦ inr (λ d. refused (tree_reached x.0 x.2 d.0 (Category c) i j d.1 (omega arith) (omega arith)) not_it)
        ]
          where
            refused : Reached x.0 (Category c) i j → list_any (eqb c) x.0 ≡ false → ⊥
            refused (inl part) not_it = omega (arith, part.0, whole)
            refused (inr all) not_it = let is = all.0 in cc

  -- so it is told of spans of each length
  told_of_length : (len : ℕ) → HaveToldBelow len
  told_of_length zero s i j below = inr (λ d. omega (arith, below, (derives_within rules kinds s i j d).0))
  told_of_length (suc len) (Kind kind) i j below = told_kind kind i j
  told_of_length (suc len) (Category c) i j below = elim (below_or_not j (i + len)) [
    | inl less ↦ told_of_length len (Category c) i j less
    | inr whole ↦ told_whole len (told_of_length len) i j below whole c
  ]

  -- and of each symbol and each span
  pub derived_or_not : (s : Symbol) (i j : ℕ) → IsToldOf (Derives rules kinds s i j)
  derived_or_not s i j = told_of_length (suc j) s i j (omega arith)
