-- The small cycles: steps with their rules, and grammars that have no others.
use Rattle.std.proofs.Common.{◌≡◌, ℕ, zero, suc, ◌+◌, ◌<◌, List, [], ◌∷◌, ◌++◌, Some, length, slice_get, refl, sym, ◌∙◌, ap, subst, arith, length-append}
use Rattle.std.specs.List.{All}
use Rattle.std.proofs.lemmas.List.Elements.{All-nil, All-cons, All-head}
use Rattle.spec_grammar.specs.declared.rule.Symbol.{Symbol}
use Rattle.spec_grammar.specs.declared.rule.Symbol.TheVariants.{Category, Kind}
use Rattle.spec_grammar.specs.declared.rule.Rule.{Rule}
use Rattle.spec_grammar.specs.Trees.{node, no_trees}
use Rattle.spec_grammar.specs.Derivation.{IsNullable}
use Rattle.spec_grammar.specs.Cycles.{StepsTo, HasChain}
use Rattle.spec_grammar.specs.Grammars.{rule_of}
use Rattle.spec_grammar_cases.specs.DerivationCases.{nests}
use Rattle.spec_grammar_cases.specs.CycleCases.{doubles, mirrors, chain, SmallCycles}
use Rattle.spec_grammar.proofs.DerivationLemmas.{kind_derives}

-- the one item of a rule makes a step
only_item_steps :
    (rules : List Rule) (r a b : ℕ)
    → slice_get rules r ≡ Some (rule_of a (Category b ∷ [])) → StepsTo rules a b
only_item_steps rules r a b is = record {
  r = r;
  rule = rule_of a (Category b ∷ []);
  is_rule = is;
  is_of = refl;
  before = [];
  behind = [];
  is_item = refl;
  nullable_before = All-nil (IsNullable rules);
  nullable_behind = All-nil (IsNullable rules);
}

-- `A ::= A A` makes a step beside the empty `A`
double_steps : StepsTo doubles 0 0
double_steps = record {
  r = 0;
  rule = rule_of 0 (Category 0 ∷ Category 0 ∷ []);
  is_rule = refl;
  is_of = refl;
  before = [];
  behind = Category 0 ∷ [];
  is_item = refl;
  nullable_before = All-nil (IsNullable doubles);
  nullable_behind =
      All-cons (IsNullable doubles) (Category 0) [] is_nullable (All-nil (IsNullable doubles));
}
  where
    is_nullable : IsNullable doubles (Category 0)
    is_nullable = (node 1 0 0 no_trees, (_, refl, refl, (refl, refl), refl, refl))

-- an empty right side has no item
no_item :
    (before behind : List Symbol) (s : Symbol) → [] ≡ before ++ (s ∷ behind) → ⊥
no_item before behind s is =
    omega (arith, ap length is, length-append before (s ∷ behind))

-- the one item of a right side is its item
only_item :
    (before behind : List Symbol) (s item : Symbol)
    → item ∷ [] ≡ before ++ (s ∷ behind) → item ≡ s
only_item [] behind s item is = cc
only_item (first ∷ before) behind s item is =
    let rest : [] ≡ before ++ (s ∷ behind) = cc in
    absurd (no_item before behind s rest)

-- no kind is nullable
kind_is_full : (rules : List Rule) (k : ℕ) → IsNullable rules (Kind k) → ⊥
kind_is_full rules k d = let token = ((kind_derives rules [] k 0 0).0 d).0 in cc

-- a right side that begins with a kind makes no step
kind_first_stops :
    (rules : List Rule) (k b : ℕ) (rest before behind : List Symbol)
    → Kind k ∷ rest ≡ before ++ (Category b ∷ behind) → All (IsNullable rules) before → ⊥
kind_first_stops rules k b rest [] behind is each = cc
kind_first_stops rules k b rest (first ∷ before) behind is each =
    let same : first ≡ Kind k = cc in
    let P : Symbol → Type 0 = λ s. IsNullable rules s in
    kind_is_full rules k (subst P same (All-head (IsNullable rules) first before each))

-- the rules of the nests make no step
nests_stand :
    (r b : ℕ) (rule : Rule) (before behind : List Symbol)
    → slice_get nests r ≡ Some rule → rule.items ≡ before ++ (Category b ∷ behind)
    → All (IsNullable nests) before → ⊥
nests_stand zero b rule before behind is item each =
    let items : rule.items ≡ [] = cc in
    no_item before behind (Category b) (sym items ∙ item)
nests_stand (suc zero) b rule before behind is item each =
    let items : rule.items ≡ Kind 7 ∷ Category 0 ∷ Kind 8 ∷ [] = cc in
    kind_first_stops nests 7 b (Category 0 ∷ Kind 8 ∷ []) before behind (sym items ∙ item) each
nests_stand (suc (suc r)) b rule before behind is item each = absurd (cc)

-- so no category of the nests steps to another
no_step_of_nests : (a b : ℕ) → StepsTo nests a b → ⊥
no_step_of_nests a b step =
    nests_stand step.r b step.rule step.before step.behind step.is_rule step.is_item step.nullable_before

-- in the chain of three each category steps to the next alone
chain_steps :
    (r b : ℕ) (rule : Rule) (before behind : List Symbol)
    → slice_get chain r ≡ Some rule → rule.items ≡ before ++ (Category b ∷ behind)
    → (b ≡ rule.category + 1) × (b < 3)
chain_steps zero b rule before behind is item =
    let items : rule.items ≡ Category 1 ∷ [] = cc in
    let same = only_item before behind (Category b) (Category 1) (sym items ∙ item) in
    let next : b ≡ 1 = cc in
    let own : rule.category ≡ 0 = cc in
    (omega (arith, next, own), omega (arith, next))
chain_steps (suc zero) b rule before behind is item =
    let items : rule.items ≡ Category 2 ∷ [] = cc in
    let same = only_item before behind (Category b) (Category 2) (sym items ∙ item) in
    let next : b ≡ 2 = cc in
    let own : rule.category ≡ 1 = cc in
    (omega (arith, next, own), omega (arith, next))
chain_steps (suc (suc zero)) b rule before behind is item =
    let items : rule.items ≡ Kind 7 ∷ [] = cc in
    let same = only_item before behind (Category b) (Kind 7) (sym items ∙ item) in
    absurd (cc)
chain_steps (suc (suc (suc r))) b rule before behind is item = absurd (cc)

-- so a step leads to the next
chain_step : (a b : ℕ) → StepsTo chain a b → (b ≡ a + 1) × (b < 3)
chain_step a b step =
    let next = chain_steps step.r b step.rule step.before step.behind step.is_rule step.is_item in
    (omega (arith, next.0, step.is_of), next.1)

-- and a chain ends at the third
chain_within : (n a : ℕ) → HasChain chain a (suc n) → a + suc n < 3
chain_within zero a leads =
    let first = leads.1 in
    let next = chain_step a first.0 first.1 in
    omega (arith, next.0, next.1)
chain_within (suc n) a leads =
    let first = leads.1 in
    let next = chain_step a first.0 first.1 in
    omega (arith, next.0, chain_within n first.0 (leads.0, first.2))

pub small_cycles : SmallCycles
small_cycles = record {
  a_nullable_sibling_makes_a_cycle = (0, (0, double_steps, refl));
  two_rules_make_a_cycle =
      (1, (0, only_item_steps mirrors 1 1 0 refl, (1, only_item_steps mirrors 0 0 1 refl, refl)));
  tokens_make_no_step = no_step_of_nests 0 0;
  nests_have_no_cycle = λ c cyclic. let first = cyclic.1 in no_step_of_nests c first.0 first.1;
  the_top_of_three_has_rank_2 = (
    (2, (1, only_item_steps chain 0 0 1 refl, (2, only_item_steps chain 1 1 2 refl, refl))),
    (λ leads. omega (arith, chain_within 2 0 leads)),
  );
  the_middle_of_three_has_rank_1 = (
    (2, (2, only_item_steps chain 1 1 2 refl, refl)),
    (λ leads. omega (arith, chain_within 1 1 leads)),
  );
  the_last_of_three_has_rank_0 = ((2, refl), (λ leads. omega (arith, chain_within 0 2 leads)));
}
