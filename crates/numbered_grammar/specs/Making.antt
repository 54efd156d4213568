-- What a caller sees of making grammars from their parts, and of finding a symbol.
use Rattle.std.specs.Prelude.{◌≡◌, ◌<◌, ◌^◌, ◌⊎◌, ℕ, List, [], ◌∷◌, Option, Some, None}
use Rattle.std.specs.Prelude.{Result, Ok, Err, length, slice_get, IfSome, MatchOption}
use Rattle.spec_lexing.specs.Lexicon.{Lexicon, lexicon_of}
use Rattle.spec_lexing.specs.declared.kind_def.KindDef.{KindDef}
use Rattle.spec_grammar.specs.declared.rule.Rule.{Rule}
use Rattle.spec_grammar.specs.declared.rule.Symbol.{Symbol}
use Rattle.spec_grammar.specs.declared.rule.Symbol.TheVariants.{Category}
use Rattle.spec_grammar.specs.Grammars.{Grammar, HasOwnSymbols, item_count}
use Rattle.spec_grammar.specs.Grammars.{HasName, HasDistinctNames}
use Rattle.spec_grammar.specs.Cycles.{IsCyclic, IsAcyclic}
use Rattle.numbered_grammar.specs.declared.fault.CycleFault.{CycleFault}
use Rattle.numbered_grammar.specs.declared.fault.CycleFault.TheVariants.{Memory, Cyclic}
use Rattle.numbered_grammar.specs.declared.lexicon.LexiconParts.{LexiconParts}

-- the lexicon of these comments and kinds
abbrev pub lexicon_of_parts : LexiconParts → Lexicon
lexicon_of_parts parts = record {
  line_comments = parts.line_comments.items;
  block_comments = parts.block_comments.items;
  kinds = parts.kinds.items;
}

-- the grammar of these parts
abbrev pub grammar_of_parts : List Rule → List (List ℕ) → Lexicon → Option Symbol → Grammar
grammar_of_parts rules categories lexicon entry = record {
  rules = rules;
  categories = categories;
  lexicon = lexicon;
  entry = entry;
}

-- the grammar of these symbols and no rules
abbrev pub grammar_of_symbols : List (List ℕ) → List KindDef → Grammar
grammar_of_symbols categories kinds = grammar_of_parts [] categories (lexicon_of kinds) None

-- numbers of rules, categories and kinds have 16 bits, there are fewer than 2 ^ 31 items, and the
-- rules have symbols of the grammar
pub record IsWellFormed (g : Grammar) : Type 0 where
  pub few_rules : length g.rules < 2 ^ 16
  pub few_categories : length g.categories < 2 ^ 16
  pub few_kinds : length g.lexicon.kinds < 2 ^ 16
  pub few_items : item_count g.rules < 2 ^ 31
  pub own_symbols : HasOwnSymbols g

-- the parts fit together: they are well formed, and no two symbols have one name
abbrev pub FitTogether : Grammar → Type 0
FitTogether g = IsWellFormed g × HasDistinctNames g

-- the category of the first rule, as the entry of rules that are given without one
abbrev pub entry_of_rules : List Rule → Option Symbol
entry_of_rules [] = None
entry_of_rules (rule ∷ rules) = Some (Category rule.category)

-- the category reaches itself, and none of a lesser number does
pub record IsLeastCyclic (g : Grammar) (c : ℕ) : Type 0 where
  pub within : c < length g.categories
  pub cyclic : IsCyclic g.rules c
  pub earlier : (lesser : ℕ) → lesser < c → IsCyclic g.rules lesser → ⊥

-- the text of the category that the fault tells, and None where memory ran out
abbrev pub cyclic_name : CycleFault → Option (List ℕ)
cyclic_name Memory = None
cyclic_name (Cyclic name) = Some name

-- the text is that of the category of least number that reaches itself
abbrev pub IsLeastCyclicName : Grammar → List ℕ → Type 0
IsLeastCyclicName g name =
    (c : ℕ) × IsLeastCyclic g c × (slice_get g.categories c ≡ Some name)

-- the answer is the grammar of these parts, and no category reaches itself, or it tells the first
-- that does; want of memory is free
abbrev pub AcceptsParts : Grammar → Result Grammar CycleFault → Type 0
AcceptsParts parts (Ok g) = IsAcyclic parts.rules × (g ≡ parts)
AcceptsParts parts (Err fault) = IfSome (cyclic_name fault) (IsLeastCyclicName parts)

-- the grammar of these parts, and None exactly where they do not fit together or some category
-- reaches itself
abbrev pub MakesGrammar : Grammar → Option Grammar → Type 0
MakesGrammar parts (Some g) = FitTogether parts × IsAcyclic parts.rules × (g ≡ parts)
MakesGrammar parts None = (FitTogether parts → ⊥) ⊎ ((c : ℕ) × IsCyclic parts.rules c)

-- the symbol of this name, and None exactly where no symbol has it
abbrev pub FindsSymbol : Grammar → List ℕ → Option Symbol → Type 0
FindsSymbol g name found =
    MatchOption found ((symbol : Symbol) → HasName g symbol name → ⊥)
    (λ symbol. HasName g symbol name)

-- these parts, and None exactly where they do not fit together
abbrev pub GivesParts : Grammar → Option Grammar → Type 0
GivesParts parts None = FitTogether parts → ⊥
GivesParts parts (Some given) = FitTogether parts × (given ≡ parts)
