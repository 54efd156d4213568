-- Serves the proofs alone. Where an item of a rule has a suffix behind it: the item's number is
-- linked to that of the suffix which it begins.
use Rattle.std.specs.Prelude.{◌≡◌, ℕ, suc, ◌↔◌, List, length}
use Rattle.spec_grammar.specs.declared.rule.Symbol.{Symbol}
use Rattle.spec_grammar.specs.Grammars.{Grammar, symbol_count}
use Rattle.binary_form.specs.Symbols.{plain, suffix, IsBinarySymbolOf}
use Rattle.binary_form.specs.UnitSteps.{HasItem}
use Rattle.binary_form.specs.BinaryForm.{IsNumberOf}
use Rattle.number_graph.specs.Graphs.{HasLink}

-- the one number is that of an item of a rule with an item behind it, and the other is that of the
-- suffix which it begins; the suffix behind the item has the next number
pub record IsLongerSuffix (g : Grammar) (item_number suffix_number : ℕ) : Type 0 where
  pub r : ℕ
  pub p : ℕ
  pub item : Symbol
  pub behind : List Symbol
  pub has : HasItem g.rules r p item behind
  pub is_item : IsNumberOf g (plain item) item_number
  pub is_suffix : IsNumberOf g (suffix r p) suffix_number
  pub goes_on : IsBinarySymbolOf g (suffix r (suc p))

-- the links lead from each item that has an item behind it to the suffix that it begins
pub record AreLongerSuffixes (g : Grammar) (longer : List (List ℕ)) : Type 0 where
  pub count : length longer ≡ symbol_count g
  pub links : (item_number suffix_number : ℕ)
      → HasLink longer item_number suffix_number ↔ IsLongerSuffix g item_number suffix_number
