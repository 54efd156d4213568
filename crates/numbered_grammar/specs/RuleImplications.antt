-- Rules as implications between categories: from the items of a rule, where they are categories
-- alone, to its category. Serves the proofs alone.
use Rattle.std.specs.Prelude.{◌≡◌, ℕ, ◌<◌, ◌↔◌, ◌⊎◌, List, [], Some, length, slice_get}
use Rattle.std.specs.Prelude.{slice_index_or, Contains}
use Rattle.spec_grammar.specs.declared.rule.Symbol.{Symbol}
use Rattle.spec_grammar.specs.declared.rule.Symbol.TheVariants.{Category, Kind}
use Rattle.spec_grammar.specs.declared.rule.Rule.{Rule}
use Rattle.number_graph.specs.Graphs.{HasLink}
use Rattle.number_graph.specs.Implications.{ImplicationList, AddsImplication}

-- there is no kind among the items
abbrev pub HasNoKinds : List Symbol → Type 0
HasNoKinds items = (k : ℕ) → Contains items (Kind k) → ⊥

-- the items are categories alone, and these are their numbers
pub record AreCategoryNumbers (items : List Symbol) (numbers : List ℕ) : Type 0 where
  pub no_kinds : HasNoKinds items
  pub exact : (c : ℕ) → Contains numbers c ↔ Contains items (Category c)

-- the implication is added that leads from the items of the rule to its category; or none is, since
-- there is a kind among the items
abbrev pub AddsRule : ImplicationList → ImplicationList → Rule → Type 0
AddsRule old new rule =
    ((numbers : List ℕ) × AreCategoryNumbers rule.items numbers
    × AddsImplication old new numbers rule.category)
    ⊎ ((k : ℕ) × Contains rule.items (Kind k) × (new ≡ old))

-- the implication at the place leads from the items of the rule to its category
pub record IsImplicationOf (rule : Rule) (implications : ImplicationList) (i : ℕ) : Type 0 where
  pub within : i < length implications.conclusions
  pub conclusion : slice_index_or implications.conclusions i 0 ≡ rule.category
  pub premises : AreCategoryNumbers rule.items (slice_index_or implications.premises i [])

-- each implication is one of a rule, and each of the first n rules without a kind has one
pub record AreOfRules (rules : List Rule) (n : ℕ) (implications : ImplicationList) : Type 0 where
  pub placed : (i p : ℕ) → HasLink implications.premises i p → i < length implications.conclusions
  pub sound : (i : ℕ) → i < length implications.conclusions
      → (r : ℕ) × (rule : Rule) × (slice_get rules r ≡ Some rule)
      × IsImplicationOf rule implications i
  pub each : (r : ℕ) (rule : Rule) → r < n → slice_get rules r ≡ Some rule → HasNoKinds rule.items
      → (i : ℕ) × IsImplicationOf rule implications i
