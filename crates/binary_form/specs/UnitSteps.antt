-- Unit steps and products, after Lange and Leiss (2009): how the symbols of a span that is not
-- empty follow from each other and from those of its two parts. No rule of the grammar is
-- rewritten.
use Rattle.std.specs.Prelude.{◌≡◌, ℕ, suc, List, [], ◌∷◌, Some, slice_get, drop}
use Rattle.spec_grammar.specs.declared.rule.Symbol.{Symbol}
use Rattle.spec_grammar.specs.declared.rule.Symbol.TheVariants.{Category}
use Rattle.spec_grammar.specs.declared.rule.Rule.{Rule}
use Rattle.spec_grammar.specs.Derivation.{DerivesAll, IsNullable}
use Rattle.number_graph.specs.Graphs.{ReachesBy}
use Rattle.binary_form.specs.Symbols.{BinarySymbol, plain, suffix}

-- rule r has the item s at place p, and these items behind it
pub record HasItem (rules : List Rule) (r p : ℕ) (s : Symbol) (behind : List Symbol) : Type 0 where
  pub rule : Rule
  pub is_rule : slice_get rules r ≡ Some rule
  pub is_item : drop p rule.items ≡ s ∷ behind

-- the items derive the empty span
abbrev pub AreNullable : List Rule → List Symbol → Type 0
AreNullable rules items = DerivesAll rules [] items 0 0

-- a unit step: what derives a span that is not empty derives it as the other symbol too
pub data UnitStep (rules : List Rule) : BinarySymbol → BinarySymbol → Type 0 where
  -- from the whole right side of a rule to the rule's category
  whole_side : {r : ℕ} {rule : Rule} → slice_get rules r ≡ Some rule
      → UnitStep rules (suffix r 0) (plain (Category rule.category))
  -- from an item to the suffix that it begins, where the items behind it are nullable, if there are
  -- any
  last_item : {r p : ℕ} {s : Symbol} {behind : List Symbol} → HasItem rules r p s behind
      → AreNullable rules behind → UnitStep rules (plain s) (suffix r p)
  -- from a suffix to the one that begins an item before, where that item is nullable
  passed_item : {r p : ℕ} {s : Symbol} {behind : List Symbol} → HasItem rules r p s behind
      → IsNullable rules s → UnitStep rules (suffix r (suc p)) (suffix r p)

-- a symbol reaches another by unit steps, or by none where it is the same
abbrev pub Reaches : List Rule → BinarySymbol → BinarySymbol → Type 0
Reaches rules = ReachesBy (UnitStep rules)

-- the symbol is in the product of two sets: item p of a rule is in the left one, the suffix behind
-- it is in the right one, and the suffix from p on reaches the symbol
pub record IsInProduct (rules : List Rule) (Left Right : BinarySymbol → Type 0)
    (s : BinarySymbol) : Type 0 where
  pub r : ℕ
  pub p : ℕ
  pub item : Symbol
  pub behind : List Symbol
  pub has : HasItem rules r p item behind
  pub on_left : Left (plain item)
  pub on_right : Right (suffix r (suc p))
  pub reaches : Reaches rules (suffix r p) s
