-- The small cases: trees for the spans that are derived, and the laws for those that are not.
use Rattle.std.proofs.Common.{◌≡◌, ℕ, ◌+◌, ◌⊎◌, List, [], ◌∷◌, Option, Some, slice_get, zero, suc, refl, ◌∙◌, subst, inl, inr, arith}
use Rattle.spec_grammar.specs.declared.rule.Symbol.{Symbol}
use Rattle.spec_grammar.specs.declared.rule.Symbol.TheVariants.{Category, Kind}
use Rattle.spec_grammar.specs.declared.rule.Rule.{Rule}
use Rattle.spec_grammar.specs.Trees.{Tree, leaf, no_trees, trees}
use Rattle.spec_grammar.specs.Derivation.{IsParseTree, AreParseTrees, Derives, DerivesAll}
use Rattle.spec_grammar.specs.Laws.{DerivesByRule}
use Rattle.spec_grammar.specs.Grammars.{rule_of}
use Rattle.spec_grammar_cases.specs.DerivationCases.{runs, nests, triples, broken, nested, run, two_runs, empty_nest, nest, two_nests, triple, SmallCases}
use Rattle.spec_grammar.proofs.DerivationLemmas.{AreFull, derives_within, derives_kinds, kind_derives, category_derives, none_derive, some_derive, derives_grows}

-- no right side of `S` is empty
runs_are_full : AreFull runs
runs_are_full zero rule is empty = cc
runs_are_full (suc zero) rule is empty = cc
runs_are_full (suc (suc r)) rule is empty = cc

-- each rule of `S` is of category 0
runs_are_of_one : (r : ℕ) (rule : Rule) → slice_get runs r ≡ Some rule → rule.category ≡ 0
runs_are_of_one zero rule is = cc
runs_are_of_one (suc zero) rule is = cc
runs_are_of_one (suc (suc r)) rule is = absurd (cc)

-- the run of the token at a place
run_is :
    (i : ℕ)
    → slice_get broken i ≡ Some (Some 7) → IsParseTree runs broken (run i) (Category 0) i (i + 1)
run_is i is =
    (_, refl, refl, (_, _, _, refl, (refl, is, refl, refl, refl), (refl, refl)), refl, refl)

-- two runs side by side
two_runs_are : IsParseTree runs broken two_runs (Category 0) 0 2
two_runs_are =
    (_, refl, refl, (_, _, _, refl, run_is 0 refl, (_, _, _, refl, run_is 1 refl, (refl, refl))), refl, refl)

-- the third token is a stray token
strays_stop : Derives runs broken (Category 0) 0 4 → ⊥
strays_stop d =
    let token = derives_kinds runs broken (Category 0) 0 4 2 d (omega arith) (omega arith) in
    cc (token.1)

-- category 1 has no rule
no_rule : (i j : ℕ) → DerivesByRule runs broken 1 i j → ⊥
no_rule i j x = omega (arith, runs_are_of_one x.0 x.1 x.2, x.3)

-- the right side of `P ::= a P b`
abbrev longer : List Symbol
longer = Kind 7 ∷ Category 0 ∷ Kind 8 ∷ []

module _ (rules : List Rule) (kinds : List (Option ℕ)) where
  -- the empty nest at a place
  empty_nest_is :
      (r i : ℕ)
      → slice_get rules r ≡ Some (rule_of 0 [])
      → IsParseTree rules kinds (empty_nest r i) (Category 0) i i
  empty_nest_is r i is = (_, is, refl, (refl, refl), refl, refl)

  -- a nest round a nest
  nest_is :
      (r i j : ℕ) (inner : Tree)
      → slice_get rules r ≡ Some (rule_of 0 longer)
      → slice_get kinds i ≡ Some (Some 7) → slice_get kinds j ≡ Some (Some 8)
      → IsParseTree rules kinds inner (Category 0) (i + 1) j
      → IsParseTree rules kinds (nest r i inner j) (Category 0) i (j + 1)
  nest_is r i j inner is first last is_inner = (
    _,
    is,
    refl,
    (_, _, _, refl, (refl, first, refl, refl, refl), (_, _, _, refl, is_inner, close)),
    refl,
    refl,
  )
    where
      close : AreParseTrees rules kinds (trees (leaf 8 j (j + 1)) no_trees) (Kind 8 ∷ []) j (j + 1)
      close = (_, _, _, refl, (refl, last, refl, refl, refl), (refl, refl))

-- a nest is empty, or it stands between two tokens round a nest
nest_cases :
    (i j : ℕ)
    → Derives nests nested (Category 0) i j
    → (j ≡ i) ⊎ ((k : ℕ) × (j ≡ k + 1) × Derives nests nested (Category 0) (i + 1) k)
nest_cases i j d =
    let x = (category_derives nests nested 0 i j).0 d in
    by_rule x.0 x.1 x.2 x.4
  where
    by_items :
        DerivesAll nests nested longer i j
        → (k : ℕ) × (j ≡ k + 1) × Derives nests nested (Category 0) (i + 1) k
    by_items all =
        let first = (some_derive nests nested (Kind 7) (Category 0 ∷ Kind 8 ∷ []) i j).0 all in
        let inner = (some_derive nests nested (Category 0) (Kind 8 ∷ []) first.0 j).0 first.2 in
        let last = (some_derive nests nested (Kind 8) [] inner.0 j).0 inner.2 in
        let from : first.0 ≡ i + 1 = ((kind_derives nests nested 7 i first.0).0 first.1).1 in
        let to : last.0 ≡ inner.0 + 1 = ((kind_derives nests nested 8 inner.0 last.0).0 last.1).1 in
        let end : j ≡ last.0 = (none_derive nests nested last.0 j).0 last.2 in
        let P : ℕ → Type 0 = λ n. Derives nests nested (Category 0) n inner.0 in
        (inner.0, end ∙ to, subst P from inner.1)

    by_rule :
        (r : ℕ) (rule : Rule)
        → slice_get nests r ≡ Some rule → DerivesAll nests nested rule.items i j
        → (j ≡ i) ⊎ ((k : ℕ) × (j ≡ k + 1) × Derives nests nested (Category 0) (i + 1) k)
    by_rule zero rule is all =
        let items : rule.items ≡ [] = cc in
        inl ((none_derive nests nested i j).0 (rw items at all))
    by_rule (suc zero) rule is all =
        let items : rule.items ≡ longer = cc in
        inr (by_items (rw items at all))
    by_rule (suc (suc r)) rule is all = absurd (cc)

-- one token is no nest
one_is_no_nest : (i : ℕ) → Derives nests nested (Category 0) i (i + 1) → ⊥
one_is_no_nest i d =
    elim (nest_cases i (i + 1) d) [
      | inl empty ↦ omega (arith, empty)
      | inr x ↦ omega (arith, (derives_within nests nested (Category 0) (i + 1) x.0 x.2).0, x.1)
    ]

-- three tokens are none, since one would be left within
three_are_no_nest : Derives nests nested (Category 0) 0 3 → ⊥
three_are_no_nest d =
    elim (nest_cases 0 3 d) [
      | inl empty ↦ omega (arith, empty)
      | inr x ↦
          let end : x.0 ≡ 2 = omega (arith, x.1) in
          one_is_no_nest 1 (rw end at x.2)
    ]

-- the two nests of `a a b b`, by rules r and r + 1
two_nests_are :
    (rules : List Rule) (r : ℕ)
    → slice_get rules r ≡ Some (rule_of 0 []) → slice_get rules (r + 1) ≡ Some (rule_of 0 longer)
    → IsParseTree rules nested (two_nests r) (Category 0) 0 4
two_nests_are rules r shorter is =
    let inner : Tree = nest (r + 1) 1 (empty_nest r 2) 2 in
    let empty = empty_nest_is rules nested r 2 shorter in
    let within = nest_is rules nested (r + 1) 1 2 (empty_nest r 2) is refl refl empty in
    nest_is rules nested (r + 1) 0 3 inner is refl refl within

-- `Q ::= P P P` over three nests side by side
three_are :
    (kinds : List (Option ℕ)) (first second third : Tree) (i k m j : ℕ)
    → IsParseTree triples kinds first (Category 0) i k
    → IsParseTree triples kinds second (Category 0) k m
    → IsParseTree triples kinds third (Category 0) m j
    → IsParseTree triples kinds (triple i first second third j) (Category 1) i j
three_are kinds first second third i k m j is_first is_second is_third =
    (_, refl, refl, (_, _, _, refl, is_first, others), refl, refl)
  where
    others :
        AreParseTrees triples kinds (trees second (trees third no_trees))
        (Category 0 ∷ Category 0 ∷ []) k j
    others = (_, _, _, refl, is_second, (_, _, _, refl, is_third, (refl, refl)))

pub small_cases : SmallCases
small_cases = record {
  a_kind_derives_its_token = (refl, refl, refl, refl, refl);
  a_kind_is_one_token = λ d. omega (arith, ((kind_derives runs broken 7 0 2).0 d).1);
  a_kind_is_no_other = λ d. let token = ((kind_derives nests nested 8 0 1).0 d).0 in cc;
  a_stray_has_no_kind = λ k d. let token = ((kind_derives runs broken k 2 3).0 d).0 in cc;
  one_token_is_a_run = run_is 3 refl;
  two_tokens_are_a_run = two_runs_are;
  a_run_stops_at_a_stray = strays_stop;
  a_run_ends_within = λ d. omega (arith, (derives_within runs broken (Category 0) 3 5 d).1);
  a_run_is_not_empty = λ d. omega (arith, derives_grows runs [] runs_are_full (Category 0) 0 0 d);
  no_rule_no_span = λ i j d. no_rule i j ((category_derives runs broken 1 i j).0 d);
  a_nest_may_be_empty = empty_nest_is nests [] 0 0 refl;
  a_nest_is_empty_anywhere = empty_nest_is nests nested 0 4 refl;
  a_nest_in_a_nest = two_nests_are nests 0 refl refl;
  a_nest_is_closed = three_are_no_nest;
  three_empty_nests =
      (triple 0 none none none 0, three_are [] none none none 0 0 0 0 is_none is_none is_none);
  one_nest_of_three =
      three_are nested none (two_nests 1) (empty_nest 1 4) 0 0 4 4
      (empty_nest_is triples nested 1 0 refl) (two_nests_are triples 1 refl refl)
      (empty_nest_is triples nested 1 4 refl);
}
  where
    none : Tree
    none = empty_nest 1 0

    is_none : IsParseTree triples [] none (Category 0) 0 0
    is_none = empty_nest_is triples [] 1 0 refl
