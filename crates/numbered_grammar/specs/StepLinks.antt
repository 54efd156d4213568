-- Steps between categories as links between their numbers. Serves the proofs alone.
use Rattle.std.specs.Prelude.{◌≡◌, ℕ, ◌<◌, ◌↔◌, List, Bool, length, slice_get, Some, Contains}
use Rattle.std.specs.Prelude.{cond}
use Rattle.std.specs.List.{sum_by}
use Rattle.spec_grammar.specs.declared.rule.Symbol.{Symbol}
use Rattle.spec_grammar.specs.declared.rule.Symbol.TheVariants.{Category}
use Rattle.spec_grammar.specs.declared.rule.Rule.{Rule}
use Rattle.spec_grammar.specs.Cycles.{StepsTo}
use Rattle.spec_grammar.specs.Grammars.{Grammar}
use Rattle.number_graph.specs.Graphs.{HasLink}
use Rattle.numbered_grammar.specs.Nullable.{flag_of}

-- the symbol counts as one where its flag is clear
abbrev pub one_if_non_nullable : List Bool → Symbol → ℕ
one_if_non_nullable flags symbol = cond (flag_of flags symbol) 0 1

-- how many of the items are not nullable, by the flags
abbrev pub non_nullable_count : List Bool → List Symbol → ℕ
non_nullable_count flags items = sum_by (one_if_non_nullable flags) items

-- the item makes a step from the category: so many items of its side are not nullable, and none of
-- them is another
abbrev pub IsItemStep : List Bool → ℕ → ℕ → Symbol → ℕ → ℕ → Type 0
IsItemStep flags category non_nullable item a b =
    (non_nullable ≡ one_if_non_nullable flags item) × (a ≡ category) × (item ≡ Category b)

-- one of the items makes a step from the category
abbrev pub IsStepOfItems : List Bool → ℕ → ℕ → List Symbol → ℕ → ℕ → Type 0
IsStepOfItems flags category non_nullable items a b =
    (non_nullable ≡ one_if_non_nullable flags (Category b)) × (a ≡ category)
    × Contains items (Category b)

-- an item of the rule makes a step from its category
abbrev pub IsRuleStep : List Bool → Rule → ℕ → ℕ → Type 0
IsRuleStep flags rule a b =
    IsStepOfItems flags rule.category (non_nullable_count flags rule.items) rule.items a b

-- one of the first n rules makes a step
abbrev pub IsStepOfRules : List Bool → List Rule → ℕ → ℕ → ℕ → Type 0
IsStepOfRules flags rules n a b =
    (r : ℕ) × (rule : Rule) × (r < n) × (slice_get rules r ≡ Some rule) × IsRuleStep flags rule a b

-- the links among so many categories are the steps that the first n rules make
pub record AreStepsSoFar (flags : List Bool) (rules : List Rule) (n categories : ℕ)
    (links : List (List ℕ)) : Type 0 where
  pub count : length links ≡ categories
  pub exact : (a b : ℕ) → HasLink links a b ↔ IsStepOfRules flags rules n a b

-- each category is linked to those that it steps to, which are categories of the grammar
pub record AreSteps (g : Grammar) (links : List (List ℕ)) : Type 0 where
  pub count : length links ≡ length g.categories
  pub exact : (a b : ℕ) → HasLink links a b ↔ StepsTo g.rules a b
  pub from : (a b : ℕ) → StepsTo g.rules a b → a < length g.categories
  pub to : (a b : ℕ) → StepsTo g.rules a b → b < length g.categories
