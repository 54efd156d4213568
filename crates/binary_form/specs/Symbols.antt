-- The symbols of the binary form and their numbers: categories, then kinds, then the suffixes of
-- the rules.
use Rattle.std.specs.Prelude.{◌≡◌, ℕ, ◌+◌, ◌<◌, List, Option, Some, length, slice_get, take, drop}
use Rattle.spec_grammar.specs.declared.rule.Symbol.{Symbol}
use Rattle.spec_grammar.specs.declared.rule.Symbol.TheVariants.{Category, Kind}
use Rattle.spec_grammar.specs.declared.rule.Rule.{Rule}
use Rattle.spec_grammar.specs.Derivation.{Derives, DerivesAll}
use Rattle.spec_grammar.specs.Grammars.{Grammar, IsSymbolOf, item_count}

-- a symbol of the grammar, or the suffix of rule r from place p on, which stands for its items from
-- there
pub data BinarySymbol : Type 0 where
  plain : Symbol → BinarySymbol
  suffix : (r p : ℕ) → BinarySymbol

-- the binary symbol derives the span: a suffix derives what its items derive in turn
abbrev pub BinaryDerives : List Rule → List (Option ℕ) → BinarySymbol → ℕ → ℕ → Type 0
BinaryDerives rules kinds (plain s) i j = Derives rules kinds s i j
BinaryDerives rules kinds (suffix r p) i j =
    (rule : Rule) × (slice_get rules r ≡ Some rule) × DerivesAll rules kinds (drop p rule.items) i j

-- the binary symbol is the grammar's: a suffix begins at an item of its rule
abbrev pub IsBinarySymbolOf : Grammar → BinarySymbol → Type 0
IsBinarySymbolOf g (plain s) = IsSymbolOf g s
IsBinarySymbolOf g (suffix r p) =
    (rule : Rule) × (slice_get g.rules r ≡ Some rule) × (p < length rule.items)

-- how many categories and kinds there are
abbrev pub plain_count : Grammar → ℕ
plain_count g = length g.categories + length g.lexicon.kinds

-- the number of the suffix that begins at this item, the items of all rules counted in order
abbrev pub suffix_number : Grammar → ℕ → ℕ
suffix_number g n = plain_count g + n

-- the suffixes of rule r are numbered from here
abbrev pub first_suffix : Grammar → ℕ → ℕ
first_suffix g r = suffix_number g (item_count (take r g.rules))

-- the number of a binary symbol: categories first, then kinds, then the suffixes, rule by rule
abbrev pub symbol_number : Grammar → BinarySymbol → ℕ
symbol_number g (plain (Category c)) = c
symbol_number g (plain (Kind k)) = length g.categories + k
symbol_number g (suffix r p) = first_suffix g r + p
