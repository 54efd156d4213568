-- A first tree is a parse tree, and there is one at most.
use Rattle.std.proofs.Common.{◌≡◌, ℕ, suc, ◌<◌, ◌⊎◌, inl, inr, List, [], ◌∷◌, Option, Some, length, slice_get, refl, sym, ◌∙◌, ap, subst, arith, Bool, true, false, ◌||◌, ◌&&◌}
use Rattle.std.specs.Prelude.{nat_lt, nat_eq, IsTrue}
use Rattle.std.proofs.lemmas.Bool.{lt-ltb, ltb-true, eqb-true}
use Rattle.std.proofs.lemmas.Bool.Decides.{nat_tests}
use Rattle.spec_grammar.specs.declared.rule.Symbol.{Symbol}
use Rattle.spec_grammar.specs.declared.rule.Rule.{Rule}
use Rattle.spec_grammar.specs.Trees.{Tree, leaf, node, Forest, no_trees, trees}
use Rattle.spec_grammar.specs.Derivation.{IsParseTree, AreParseTrees}
use Rattle.spec_trees.specs.FirstTrees.{tree_end, ends_of, EndsOrder, from_left, NoLesserRule, NoEndsBefore, IsFirstTree, AreFirstTrees}
use Rattle.spec_trees.specs.OrderLaws.{IsStrictOrder, TellsApart}

-- a number is below another, or the same, or above it
pub below_same_above : (m n : ℕ) → (m < n) ⊎ ((m ≡ n) ⊎ (n < m))
below_same_above m n = grind arith

-- one of two tests is passed
or_first : (a b : Bool) → IsTrue a → IsTrue (a || b)
or_first true b passed = passed
or_first false b passed = absurd (cc)

or_second : (a b : Bool) → IsTrue b → IsTrue (a || b)
or_second true b passed = refl
or_second false b passed = passed

-- the test of two numbers that are the same is passed
same_passes : (m n : ℕ) → m ≡ n → nat_eq m n ≡ true
same_passes m n same = rw same grind (arith, nat_tests)

-- and then the other test decides
and_second : (a b : Bool) → a ≡ true → IsTrue b → IsTrue (a && b)
and_second a b is passed = rw is passed

-- the lesser number first is a strict order
pub lesser_is_strict : IsStrictOrder nat_lt
lesser_is_strict = record {
  apart = λ m n. elim (below_same_above m n) [
    | inl below ↦ inr (inl (lt-ltb m n below))
    | inr (inl same) ↦ inl same
    | inr (inr above) ↦ inr (inr (lt-ltb n m above))
  ];
  chain = λ k m n below above.
      lt-ltb k n (omega (arith, ltb-true k m below, ltb-true m n above));
  never = λ n below. omega (arith, ltb-true n n below);
}

-- and so is the greater number first
pub greater_is_strict : IsStrictOrder (λ m n. nat_lt n m)
greater_is_strict = record {
  apart = λ m n. elim (below_same_above n m) [
    | inl below ↦ inr (inl (lt-ltb n m below))
    | inr (inl same) ↦ inl (sym same)
    | inr (inr above) ↦ inr (inr (lt-ltb m n above))
  ];
  chain = λ k m n below above.
      lt-ltb n k (omega (arith, ltb-true m k below, ltb-true n m above));
  never = λ n below. omega (arith, ltb-true n n below);
}

module _ (is_lesser : ℕ → ℕ → Bool) where
  module _ (end other : ℕ) (ends others : List ℕ) where
    -- a list with a lesser first end comes before
    pub lesser_first :
        IsTrue (is_lesser end other) → IsTrue (from_left is_lesser (end ∷ ends) (other ∷ others))
    lesser_first below =
        or_first (is_lesser end other) (nat_eq end other && from_left is_lesser ends others) below

    -- and so does one that comes before behind the same first end
    pub lesser_behind :
        end ≡ other → IsTrue (from_left is_lesser ends others)
        → IsTrue (from_left is_lesser (end ∷ ends) (other ∷ others))
    lesser_behind same before =
        or_second (is_lesser end other) (nat_eq end other && from_left is_lesser ends others)
        (and_second (nat_eq end other) (from_left is_lesser ends others) (same_passes end other same) before)

    -- and no other
    pub lesser_cases :
        IsTrue (from_left is_lesser (end ∷ ends) (other ∷ others))
        → IsTrue (is_lesser end other)
        ⊎ ((end ≡ other) × IsTrue (from_left is_lesser ends others))
    lesser_cases before = by_test (is_lesser end other) (nat_eq end other) refl refl before
      where
        by_test :
            (lesser equal : Bool) → is_lesser end other ≡ lesser → nat_eq end other ≡ equal
            → IsTrue (lesser || (equal && from_left is_lesser ends others))
            → IsTrue (is_lesser end other)
            ⊎ ((end ≡ other) × IsTrue (from_left is_lesser ends others))
        by_test true equal is is_equal holds = inl is
        by_test false true is is_equal holds = inr (eqb-true end other is_equal, holds)
        by_test false false is is_equal holds = absurd (cc)

  module _ (order : IsStrictOrder is_lesser) where
    -- the order from the left tells lists apart
    pub left_tells_apart : TellsApart (from_left is_lesser)
    left_tells_apart [] [] same = inl refl
    left_tells_apart [] (other ∷ others) same = absurd (omega (arith, same))
    left_tells_apart (end ∷ ends) [] same = absurd (omega (arith, same))
    left_tells_apart (end ∷ ends) (other ∷ others) same =
        elim (order.apart end other) [
          | inl equal ↦ behind equal (left_tells_apart ends others (omega (arith, same)))
          | inr (inl below) ↦ inr (inl (lesser_first end other ends others below))
          | inr (inr above) ↦ inr (inr (lesser_first other end others ends above))
        ]
      where
        behind :
            end ≡ other
            → (ends ≡ others)
            ⊎ (IsTrue (from_left is_lesser ends others) ⊎ IsTrue (from_left is_lesser others ends))
            → (end ∷ ends ≡ other ∷ others)
            ⊎ (IsTrue (from_left is_lesser (end ∷ ends) (other ∷ others))
            ⊎ IsTrue (from_left is_lesser (other ∷ others) (end ∷ ends)))
        behind equal (inl all) = inl (cc)
        behind equal (inr (inl before)) = inr (inl (lesser_behind end other ends others equal before))
        behind equal (inr (inr after)) = inr (inr (lesser_behind other end others ends (sym equal) after))

module _ (rules : List Rule) (kinds : List (Option ℕ)) where
  -- a tree ends where its span does
  pub ends_with_span : (t : Tree) (s : Symbol) (i j : ℕ) → IsParseTree rules kinds t s i j → tree_end t ≡ j
  ends_with_span (leaf kind first end) s i j is = is.4
  ends_with_span (node r first end subtrees) s i j is = is.5

  -- there are as many trees as items
  pub ends_length :
      (ts : Forest) (items : List Symbol) (i j : ℕ)
      → AreParseTrees rules kinds ts items i j → length (ends_of ts) ≡ length items
  ends_length no_trees items i j are = ap length (sym are.0)
  ends_length (trees t ts) items i j are =
      ap suc (ends_length ts are.1 are.2 j are.5) ∙ ap length (sym are.3)

  module _ (is_before : EndsOrder) where
    mutual
      -- a first tree is a parse tree
      pub first_is_parse_tree :
          (t : Tree) (s : Symbol) (i j : ℕ)
          → IsFirstTree is_before rules kinds t s i j → IsParseTree rules kinds t s i j
      first_is_parse_tree (leaf kind first end) s i j is = is
      first_is_parse_tree (node r first end subtrees) s i j is =
          (is.0, is.1, is.2, firsts_are_parse_trees subtrees (is.0).items i j is.3, is.4, is.5)

      -- and so are first trees side by side
      pub firsts_are_parse_trees :
          (ts : Forest) (items : List Symbol) (i j : ℕ)
          → AreFirstTrees is_before rules kinds ts items i j → AreParseTrees rules kinds ts items i j
      firsts_are_parse_trees no_trees items i j are = are
      firsts_are_parse_trees (trees t ts) items i j are = (
        are.0,
        are.1,
        are.2,
        are.3,
        first_is_parse_tree t are.0 i are.2 are.4,
        firsts_are_parse_trees ts are.1 are.2 j are.5,
      )

    -- two nodes without lesser rules have the same rule
    same_rule :
        (r other i j : ℕ) (rule other_rule : Rule) (ts others : Forest)
        → slice_get rules r ≡ Some rule → slice_get rules other ≡ Some other_rule
        → rule.category ≡ other_rule.category
        → AreParseTrees rules kinds ts rule.items i j
        → AreParseTrees rules kinds others other_rule.items i j
        → NoLesserRule rules kinds r rule.category i j
        → NoLesserRule rules kinds other other_rule.category i j
        → r ≡ other
    same_rule r other i j rule other_rule ts others is is_other same are are_others least least_other =
        elim (below_same_above r other) [
          | inl below ↦ absurd (least_other r rule below is same (ts, are))
          | inr (inl equal) ↦ equal
          | inr (inr above) ↦ absurd (least other other_rule above is_other (sym same) (others, are_others))
        ]

    module _ (apart : TellsApart is_before) where
      -- two lists of ends before which none comes are the same
      same_ends :
          (ts others : Forest) (items : List Symbol) (i j : ℕ)
          → AreParseTrees rules kinds ts items i j → AreParseTrees rules kinds others items i j
          → NoEndsBefore is_before rules kinds (ends_of ts) items i j
          → NoEndsBefore is_before rules kinds (ends_of others) items i j
          → ends_of ts ≡ ends_of others
      same_ends ts others items i j are are_others least least_others =
          elim (apart (ends_of ts) (ends_of others) (ends_length ts items i j are ∙ sym (ends_length others items i j are_others))) [
            | inl same ↦ same
            | inr (inl before) ↦ absurd (least_others ts are before)
            | inr (inr after) ↦ absurd (least others are_others after)
          ]

      mutual
        -- two first trees of a symbol over a span are the same
        pub first_tree_is_one :
            (t other : Tree) (s : Symbol) (i j : ℕ)
            → IsFirstTree is_before rules kinds t s i j → IsFirstTree is_before rules kinds other s i j
            → t ≡ other
        first_tree_is_one (leaf kind first end) (leaf kind' first' end') s i j is is' =
            let same : kind ≡ kind' = cc in
            let begins : first ≡ first' = is.3 ∙ sym is'.3 in
            let ends : end ≡ end' = is.4 ∙ sym is'.4 in
            cc
        first_tree_is_one (leaf kind first end) (node r first' end' subtrees) s i j is is' = absurd (cc)
        first_tree_is_one (node r first end subtrees) (leaf kind first' end') s i j is is' = absurd (cc)
        first_tree_is_one (node r first end subtrees) (node r' first' end' subtrees') s i j is is' =
            let category : (is.0).category ≡ (is'.0).category = cc in
            let are = firsts_are_parse_trees subtrees (is.0).items i j is.3 in
            let are' = firsts_are_parse_trees subtrees' (is'.0).items i j is'.3 in
            let number : r ≡ r' =
            same_rule r r' i j is.0 is'.0 subtrees subtrees' is.1 is'.1 category are are' is.6 is'.6 in
            let rule : is'.0 ≡ is.0 = cc in
            let P : Rule → Type 0 = λ x. AreFirstTrees is_before rules kinds subtrees' x.items i j in
            let Q : Rule → Type 0 = λ x. NoEndsBefore is_before rules kinds (ends_of subtrees') x.items i j in
            let firsts = subst P rule is'.3 in
            let least = subst Q rule is'.7 in
            let ends = same_ends subtrees subtrees' (is.0).items i j are (firsts_are_parse_trees subtrees' (is.0).items i j firsts) is.7 least in
            let forest : subtrees ≡ subtrees' = first_trees_are_one subtrees subtrees' (is.0).items i j ends is.3 firsts in
            let begins : first ≡ first' = is.4 ∙ sym is'.4 in
            let end_same : end ≡ end' = is.5 ∙ sym is'.5 in
            cc

        -- and so are first trees side by side that end alike
        pub first_trees_are_one :
            (ts others : Forest) (items : List Symbol) (i j : ℕ)
            → ends_of ts ≡ ends_of others
            → AreFirstTrees is_before rules kinds ts items i j
            → AreFirstTrees is_before rules kinds others items i j → ts ≡ others
        first_trees_are_one no_trees no_trees items i j ends are are' = refl
        first_trees_are_one no_trees (trees t ts) items i j ends are are' = absurd (cc)
        first_trees_are_one (trees t ts) no_trees items i j ends are are' = absurd (cc)
        first_trees_are_one (trees t ts) (trees t' ts') items i j ends are are' =
            let symbol : are'.0 ≡ are.0 = cc in
            let rest : are'.1 ≡ are.1 = cc in
            let end : tree_end t ≡ tree_end t' = cc in
            let behind : ends_of ts ≡ ends_of ts' = cc in
            let here = ends_with_span t are.0 i are.2 (first_is_parse_tree t are.0 i are.2 are.4) in
            let here' = ends_with_span t' are'.0 i are'.2 (first_is_parse_tree t' are'.0 i are'.2 are'.4) in
            let cut : are'.2 ≡ are.2 = sym here' ∙ (sym end ∙ here) in
            let P : Symbol → ℕ → Type 0 = λ s k. IsFirstTree is_before rules kinds t' s i k in
            let Q : List Symbol → ℕ → Type 0 = λ items k. AreFirstTrees is_before rules kinds ts' items k j in
            let first' : P are.0 are.2 = subst (λ k. P are.0 k) cut (subst (λ s. P s are'.2) symbol are'.4) in
            let others' : Q are.1 are.2 = subst (λ k. Q are.1 k) cut (subst (λ items. Q items are'.2) rest are'.5) in
            let first : t ≡ t' = first_tree_is_one t t' are.0 i are.2 are.4 first' in
            let others : ts ≡ ts' = first_trees_are_one ts ts' are.1 are.2 j behind are.5 others' in
            cc
