-- Which categories derive the empty span, as a list of flags.
use Rattle.std.specs.Prelude.{◌≡◌, ℕ, ◌<◌, ◌↔◌, List, Bool, false, length}
use Rattle.std.specs.Prelude.{slice_index_or}
use Rattle.spec_grammar.specs.declared.rule.Symbol.{Symbol}
use Rattle.spec_grammar.specs.declared.rule.Symbol.TheVariants.{Category, Kind}
use Rattle.spec_grammar.specs.Derivation.{IsNullable}
use Rattle.spec_grammar.specs.Grammars.{Grammar}
use Rattle.number_graph.specs.Graphs.{IsSet}

-- each category has a flag, which says whether it derives the empty span
pub record AreNullableFlags (g : Grammar) (flags : List Bool) : Type 0 where
  pub count : length flags ≡ length g.categories
  pub exact : (c : ℕ) → c < length g.categories
      → IsSet flags c ↔ IsNullable g.rules (Category c)

-- the flag of the symbol, which is clear at a kind
abbrev pub flag_of : List Bool → Symbol → Bool
flag_of flags (Category c) = slice_index_or flags c false
flag_of flags (Kind k) = false
