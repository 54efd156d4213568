-- Grammars with numbers in place of names, and the symbols that are theirs.
use Rattle.std.specs.Prelude.{◌≡◌, ℕ, ◌+◌, ◌<◌, List, length, Option, Some, All, slice_get}
use Rattle.std.specs.Prelude.{bytes_eq}
use Rattle.std.specs.List.{position_or_len, sum_by}
use Rattle.spec_lexing.specs.declared.kind_def.KindDef.{KindDef}
use Rattle.spec_lexing.specs.declared.kind_def.KindDef.TheVariants.{Word, Token}
use Rattle.spec_lexing.specs.Lexicon.{Lexicon}
use Rattle.spec_grammar.specs.declared.rule.Label.TheVariants.{Wild}
use Rattle.spec_grammar.specs.declared.rule.Symbol.{Symbol}
use Rattle.spec_grammar.specs.declared.rule.Symbol.TheVariants.{Category, Kind}
use Rattle.spec_grammar.specs.declared.rule.Rule.{Rule}

-- a grammar: its rules and the texts of its categories, each by number, what it looks for in a
-- text, its kinds by number among them, and the symbol that is asked for where none is named
pub record Grammar : Type 0 where
  pub rules : List Rule
  pub categories : List (List ℕ)
  pub lexicon : Lexicon
  pub entry : Option Symbol

-- the rule that gives these items to the category, and that makes no node
abbrev pub rule_of : ℕ → List Symbol → Rule
rule_of category items = record { label = Wild; category = category; items = items }

-- the symbol is the grammar's: its number is below the count of categories, or of kinds
abbrev pub IsSymbolOf : Grammar → Symbol → Type 0
IsSymbolOf g (Category c) = c < length g.categories
IsSymbolOf g (Kind k) = k < length g.lexicon.kinds

-- the rule's category is one of the grammar, and its items are symbols of it
abbrev pub HasSymbolsOf : Grammar → Rule → Type 0
HasSymbolsOf g rule = IsSymbolOf g (Category rule.category) × All (IsSymbolOf g) rule.items

-- each rule of the grammar has symbols of the grammar
abbrev pub HasOwnSymbols : Grammar → Type 0
HasOwnSymbols g = (r : ℕ) (rule : Rule) → slice_get g.rules r ≡ Some rule → HasSymbolsOf g rule

-- how many items the rules have together
abbrev pub item_count : List Rule → ℕ
item_count rules = sum_by (λ (rule : Rule). length rule.items) rules

-- how many symbols a chart of the grammar has to tell apart: categories, kinds and all items of all
-- rules
abbrev pub symbol_count : Grammar → ℕ
symbol_count g = length g.categories + length g.lexicon.kinds + item_count g.rules

-- the place of the name in the list, which is its number
abbrev pub name_number : List (List ℕ) → List ℕ → ℕ
name_number names name = position_or_len (bytes_eq name) names

-- the category of this text
abbrev pub category_symbol : List (List ℕ) → List ℕ → Symbol
category_symbol categories text = Category (name_number categories text)

-- the kind of token is no word, and has this name
abbrev pub IsTokenNamed : KindDef → List ℕ → Type 0
IsTokenNamed (Word word) name = ⊥
IsTokenNamed (Token own expr) name = own ≡ name

-- the symbol has this name: a category its text, a kind of token that is no word its own name
abbrev pub HasName : Grammar → Symbol → List ℕ → Type 0
HasName g (Category c) name = slice_get g.categories c ≡ Some name
HasName g (Kind k) name =
    (kind : KindDef) × (slice_get g.lexicon.kinds k ≡ Some kind) × IsTokenNamed kind name

-- no two symbols have one name
abbrev pub HasDistinctNames : Grammar → Type 0
HasDistinctNames g =
    (s t : Symbol) (name : List ℕ) → HasName g s name → HasName g t name → s ≡ t
