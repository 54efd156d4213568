-- Steps between categories, cycles, and the length of the longest chain of steps.
use Rattle.std.specs.Prelude.{◌≡◌, ℕ, zero, suc, ◌++◌, List, ◌∷◌, Some, slice_get, All}
use Rattle.spec_grammar.specs.declared.rule.Symbol.{Symbol}
use Rattle.spec_grammar.specs.declared.rule.Symbol.TheVariants.{Category}
use Rattle.spec_grammar.specs.declared.rule.Rule.{Rule}
use Rattle.spec_grammar.specs.Derivation.{IsNullable}

-- category a steps to b: a rule of a has b among its items, and each other item of that rule is
-- nullable
pub record StepsTo (rules : List Rule) (a b : ℕ) : Type 0 where
  pub r : ℕ
  pub rule : Rule
  pub is_rule : slice_get rules r ≡ Some rule
  pub is_of : rule.category ≡ a
  pub before : List Symbol
  pub behind : List Symbol
  pub is_item : rule.items ≡ before ++ (Category b ∷ behind)
  pub nullable_before : All (IsNullable rules) before
  pub nullable_behind : All (IsNullable rules) behind

-- from category a a chain of so many steps leads to category c
abbrev pub Leads : List Rule → ℕ → ℕ → ℕ → Type 0
Leads rules zero a c = a ≡ c
Leads rules (suc n) a c = (b : ℕ) × StepsTo rules a b × Leads rules n b c

-- the category reaches itself by one step or more
abbrev pub IsCyclic : List Rule → ℕ → Type 0
IsCyclic rules c = (n : ℕ) × Leads rules (suc n) c c

-- no category reaches itself
abbrev pub IsAcyclic : List Rule → Type 0
IsAcyclic rules = (c : ℕ) → IsCyclic rules c → ⊥

-- a chain of so many steps begins at the category
abbrev pub HasChain : List Rule → ℕ → ℕ → Type 0
HasChain rules c n = (b : ℕ) × Leads rules n c b

-- the longest chain of steps from the category has this length
abbrev pub IsRank : List Rule → ℕ → ℕ → Type 0
IsRank rules c n = HasChain rules c n × (HasChain rules c (suc n) → ⊥)
