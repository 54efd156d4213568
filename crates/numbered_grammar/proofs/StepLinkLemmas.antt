-- Links between categories that rules add item by item, and that they are the steps.
use Rattle.std.proofs.Common.{below_more, ◌≡◌, ℕ, zero, suc, ◌+◌, ◌<◌, ◌⊎◌, ◌↔◌, inl, inr, List, [], ◌∷◌, ◌++◌, Bool, true, false, IsTrue, cond, length, slice_get, Some, refl, sym, ◌∙◌, ap, subst, arith}
use Rattle.std.specs.List.{Contains, AllByRecursion}
use Rattle.std.proofs.lemmas.Bool.{false≢true}
use Rattle.std.proofs.lemmas.List.Elements.{Contains-append_left, Contains-push, Contains-push_cases, All-contains, All-from_recursion, recursion_from_All}
use Rattle.std.proofs.lemmas.List.Sums.{sum_by-append, sum_by-cons}
use Rattle.std.proofs.lemmas.Option.{slice_get_within, same_Some}
use Rattle.spec_grammar.specs.declared.rule.Symbol.{Symbol}
use Rattle.spec_grammar.specs.declared.rule.Symbol.TheVariants.{Category, Kind}
use Rattle.spec_grammar.specs.declared.rule.Rule.{Rule}
use Rattle.spec_grammar.specs.Derivation.{IsNullable}
use Rattle.spec_grammar.specs.Cycles.{StepsTo}
use Rattle.spec_grammar.proofs.DerivationLemmas.{category_derives}
use Rattle.spec_grammar.specs.Grammars.{Grammar, IsSymbolOf, HasOwnSymbols}
use Rattle.number_graph.specs.Graphs.{HasLink, AddsLinks, AreNoLinks}
use Rattle.number_graph.proofs.FlagLemmas.{set_within}
use Rattle.number_graph.proofs.LinkLemmas.{adds_alike, adds_both, no_link}
use Rattle.numbered_grammar.specs.Nullable.{AreNullableFlags, flag_of}
use Rattle.numbered_grammar.specs.StepLinks.{one_if_non_nullable, non_nullable_count, IsItemStep, IsStepOfItems, IsRuleStep, IsStepOfRules, AreStepsSoFar, AreSteps}
use Rattle.numbered_grammar.proofs.NullableLemmas.{kind_not_nullable}

-- where there is nothing to add, the links stay
pub adds_none : (A : ℕ → ℕ → Type 0) (links : List (List ℕ)) → ((m n : ℕ) → A m n → ⊥) → AddsLinks A links links
adds_none A links none = record {
  count = refl;
  links = λ m n. (
    (λ has. inl has),
    (λ has. elim has [
      | inl old ↦ old
      | inr added ↦ absurd (none m n added)
    ]),
  );
}

-- a link that is added where a test holds is the item's step
pub item_links :
    (flags : List Bool) (old new : List (List ℕ)) (category non_nullable b : ℕ) (item : Symbol) (alone : Bool)
    → item ≡ Category b → IsTrue alone ↔ non_nullable ≡ one_if_non_nullable flags item
    → AddsLinks (λ m n. IsTrue alone × (m ≡ category) × (n ≡ b)) old new
    → AddsLinks (IsItemStep flags category non_nullable item) old new
item_links flags old new category non_nullable b item alone is tests adds =
    adds_alike (λ m n. IsTrue alone × (m ≡ category) × (n ≡ b)) (IsItemStep flags category non_nullable item) old new
    (λ m n. (
      (λ x. (tests.0 x.0, x.1, is ∙ ap Category (sym x.2))),
      (λ x. (tests.1 x.0, x.1, same_number n (sym x.2 ∙ is))),
    ))
    adds
  where
    same_number : (n : ℕ) → Category n ≡ Category b → n ≡ b
    same_number n same = cc

module _ (flags : List Bool) (category non_nullable : ℕ) (old : List (List ℕ)) where
  -- no items make no step
  pub items_start : AddsLinks (IsStepOfItems flags category non_nullable []) old old
  items_start = adds_none (IsStepOfItems flags category non_nullable []) old (λ m n x. omega (arith, x.2.1))

  -- one item more makes its own steps
  pub items_more :
      (middle new : List (List ℕ)) (items : List Symbol) (item : Symbol)
      → AddsLinks (IsStepOfItems flags category non_nullable items) old middle
      → AddsLinks (IsItemStep flags category non_nullable item) middle new
      → AddsLinks (IsStepOfItems flags category non_nullable (items ++ item ∷ [])) old new
  items_more middle new items item before last =
      adds_alike
      (λ m n. IsStepOfItems flags category non_nullable items m n ⊎ IsItemStep flags category non_nullable item m n)
      (IsStepOfItems flags category non_nullable (items ++ item ∷ [])) old new
      (λ m n. (joined m n, parted m n))
      (adds_both (IsStepOfItems flags category non_nullable items) (IsItemStep flags category non_nullable item) old middle new before last)
    where
      joined :
          (m n : ℕ)
          → IsStepOfItems flags category non_nullable items m n ⊎ IsItemStep flags category non_nullable item m n
          → IsStepOfItems flags category non_nullable (items ++ item ∷ []) m n
      joined m n (inl x) = (x.0, x.1, Contains-append_left items (item ∷ []) (Category n) x.2)
      joined m n (inr x) =
          let Own : Symbol → Type 0 = λ s. non_nullable ≡ one_if_non_nullable flags s in
          let Has : Symbol → Type 0 = λ s. Contains (items ++ item ∷ []) s in
          (subst Own x.2 x.0, x.1, subst Has x.2 (Contains-push items item))

      parted :
          (m n : ℕ)
          → IsStepOfItems flags category non_nullable (items ++ item ∷ []) m n
          → IsStepOfItems flags category non_nullable items m n ⊎ IsItemStep flags category non_nullable item m n
      parted m n x = elim (Contains-push_cases items item (Category n) x.2) [
        | inl has ↦ inl (x.0, x.1, has)
        | inr same ↦
            let Own : Symbol → Type 0 = λ s. non_nullable ≡ one_if_non_nullable flags s in
            inr (subst Own (sym same) x.0, x.1, same)
      ]

module _ (flags : List Bool) (rules : List Rule) (count : ℕ) where
  -- no rules make no step
  pub rules_start : (links : List (List ℕ)) → AreNoLinks count links → length links ≡ count → AreStepsSoFar flags rules 0 count links
  rules_start links none len = record {
    count = len;
    exact = λ a b. ((λ has. absurd (no_link count a b (rw none at has))), (λ x. absurd (omega (arith, x.2))));
  }

  -- one rule more makes its own steps
  pub rules_more :
      (n : ℕ) (rule : Rule) (old new : List (List ℕ))
      → slice_get rules n ≡ Some rule → AreStepsSoFar flags rules n count old
      → AddsLinks (IsRuleStep flags rule) old new → AreStepsSoFar flags rules (n + 1) count new
  rules_more n rule old new is before adds = record {
    count = adds.count ∙ before.count;
    exact = λ a b. (
      (λ has. elim ((adds.links a b).0 has) [
        | inl had ↦
            let x = (before.exact a b).0 had in
            (x.0, x.1, omega (arith, x.2), x.3, x.4)
        | inr own ↦ (n, rule, omega arith, is, own)
      ]),
      (λ x. (adds.links a b).1 (parted a b x)),
    );
  }
    where
      parted : (a b : ℕ) → IsStepOfRules flags rules (n + 1) a b → HasLink old a b ⊎ IsRuleStep flags rule a b
      parted a b x =
          below_more Parts n
          (λ k earlier y at step. inl ((before.exact a b).1 (k, y, earlier, at, step)))
          (λ y at step. inr (subst (λ s. IsRuleStep flags s a b) (same_Some y rule (sym at ∙ is)) step))
          x.0 x.2 x.1 x.3 x.4
        where
          Parts : ℕ → Type 0
          Parts k = (y : Rule) → slice_get rules k ≡ Some y → IsRuleStep flags y a b → HasLink old a b ⊎ IsRuleStep flags rule a b

-- an item of a list stands between others
split_at :
    (items : List Symbol) (s : Symbol)
    → Contains items s → (before : List Symbol) × (behind : List Symbol) × (items ≡ before ++ (s ∷ behind))
split_at [] s has = absurd (omega (arith, has.1))
split_at (item ∷ items) s (zero, within, is) = ([], items, ap (λ x. x ∷ items) is)
split_at (item ∷ items) s (suc k, within, is) =
    let rest = split_at items s (k, omega arith, is) in
    (item ∷ rest.0, rest.1, ap (λ xs. item ∷ xs) rest.2)

-- an item between others is an item
item_between :
    (before behind : List Symbol) (s : Symbol) → Contains (before ++ (s ∷ behind)) s
item_between [] behind s = (0, omega arith, refl)
item_between (item ∷ before) behind s =
    let rest = item_between before behind s in
    (suc rest.0, omega (arith, rest.1), rest.2)

module _ (flags : List Bool) where
  -- a symbol counts as none exactly where its flag is set
  none_own : (s : Symbol) → IsTrue (flag_of flags s) ↔ one_if_non_nullable flags s ≡ 0
  none_own s = by_flag (flag_of flags s)
    where
      by_flag : (flag : Bool) → IsTrue flag ↔ ◌≡◌ {A = ℕ} (cond flag 0 1) 0
      by_flag true = ((λ is. refl), (λ is. refl))
      by_flag false = ((λ is. absurd (false≢true is)), (λ is. absurd (omega (arith, is))))

module _ (g : Grammar) (flags : List Bool) (are : AreNullableFlags g flags) (own : HasOwnSymbols g) where
  -- a symbol counts as none exactly where it is nullable
  none_nullable : (s : Symbol) → one_if_non_nullable flags s ≡ 0 ↔ IsNullable g.rules s
  none_nullable (Kind k) = ((λ is. absurd (omega (arith, is))), (λ d. absurd (kind_not_nullable g.rules k d)))
  none_nullable (Category c) = (
    (λ is.
        let set = (none_own flags (Category c)).1 is in
        let within = set_within flags c set in
        (are.exact c (omega (arith, within, are.count))).0 set),
    (λ d.
        let x = (category_derives g.rules [] c 0 0).0 d in
        let below : c < length g.categories = subst (λ k. k < length g.categories) x.3 (own x.0 x.1 x.2).0 in
        (none_own flags (Category c)).0 ((are.exact c below).1 d)),
  )

  -- items have no others but nullable ones exactly where each is nullable
  all_nullable : (items : List Symbol) → non_nullable_count flags items ≡ 0 ↔ AllByRecursion (IsNullable g.rules) items
  all_nullable [] = ((λ is. tt), (λ each. refl))
  all_nullable (s ∷ items) = (
    (λ is. (
      (none_nullable s).0 (omega (arith, is, sum_by-cons (one_if_non_nullable flags) s items)),
      (all_nullable items).0 (omega (arith, is, sum_by-cons (one_if_non_nullable flags) s items)),
    )),
    (λ each. omega (arith, sum_by-cons (one_if_non_nullable flags) s items, (none_nullable s).1 each.0, (all_nullable items).1 each.1)),
  )

  -- the count of a side with the item between others
  count_between :
      (before behind : List Symbol) (s : Symbol)
      → non_nullable_count flags (before ++ (s ∷ behind)) ≡ non_nullable_count flags before + one_if_non_nullable flags s + non_nullable_count flags behind
  count_between before behind s =
      omega (arith, sum_by-append (one_if_non_nullable flags) before (s ∷ behind), sum_by-cons (one_if_non_nullable flags) s behind)

  -- a step of a rule is a step
  step_of_rule :
      (r : ℕ) (rule : Rule) (a b : ℕ)
      → slice_get g.rules r ≡ Some rule → IsRuleStep flags rule a b → StepsTo g.rules a b
  step_of_rule r rule a b is x =
      let at = split_at rule.items (Category b) x.2 in
      let all : non_nullable_count flags rule.items ≡ non_nullable_count flags at.0 + one_if_non_nullable flags (Category b) + non_nullable_count flags at.1 =
      ap (non_nullable_count flags) at.2 ∙ count_between at.0 at.1 (Category b) in
      record {
        r = r;
        rule = rule;
        is_rule = is;
        is_of = sym x.1;
        before = at.0;
        behind = at.1;
        is_item = at.2;
        nullable_before = All-from_recursion (IsNullable g.rules) at.0 ((all_nullable at.0).0 (omega (arith, all, x.0)));
        nullable_behind = All-from_recursion (IsNullable g.rules) at.1 ((all_nullable at.1).0 (omega (arith, all, x.0)));
      }

  -- a step is a step of its rule
  rule_of_step : (a b : ℕ) (step : StepsTo g.rules a b) → IsRuleStep flags step.rule a b
  rule_of_step a b step =
      let all : non_nullable_count flags step.rule.items ≡ non_nullable_count flags step.before + one_if_non_nullable flags (Category b) + non_nullable_count flags step.behind =
      ap (non_nullable_count flags) step.is_item ∙ count_between step.before step.behind (Category b) in
      let none_before = (all_nullable step.before).1 (recursion_from_All (IsNullable g.rules) step.before step.nullable_before) in
      let none_behind = (all_nullable step.behind).1 (recursion_from_All (IsNullable g.rules) step.behind step.nullable_behind) in
      let Has : List Symbol → Type 0 = λ xs. Contains xs (Category b) in
      (omega (arith, all, none_before, none_behind), sym step.is_of, subst Has (sym step.is_item) (item_between step.before step.behind (Category b)))

  -- a step leads from a category of the grammar
  from_category : (a b : ℕ) → StepsTo g.rules a b → a < length g.categories
  from_category a b step =
      subst (λ c. c < length g.categories) step.is_of (own step.r step.rule step.is_rule).0

  -- and to one
  to_category : (a b : ℕ) → StepsTo g.rules a b → b < length g.categories
  to_category a b step =
      let Has : List Symbol → Type 0 = λ xs. Contains xs (Category b) in
      let has = subst Has (sym step.is_item) (item_between step.before step.behind (Category b)) in
      All-contains (IsSymbolOf g) step.rule.items (Category b) (own step.r step.rule step.is_rule).1 has

  -- the links that all rules give are the steps
  pub steps_are :
      (links : List (List ℕ))
      → AreStepsSoFar flags g.rules (length g.rules) (length g.categories) links → AreSteps g links
  steps_are links all = record {
    count = all.count;
    from = from_category;
    to = to_category;
    exact = λ a b. (
      (λ has.
          let x = (all.exact a b).0 has in
          step_of_rule x.0 x.1 a b x.3 x.4),
      (λ step.
          (all.exact a b).1
          (step.r, step.rule, slice_get_within g.rules step.r step.rule step.is_rule, step.is_rule, rule_of_step a b step)),
    );
  }
