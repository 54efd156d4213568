-- Symbols by their names, as a map has them. Serves the proofs alone.
use Rattle.std.specs.Prelude.{◌≡◌, ℕ, ◌+◌, List, [], ◌∷◌, ◌++◌, map, Option, None, Bool, true}
use Rattle.std.specs.Prelude.{false, Vec, bytes_eq, Contains, MatchOption, is_some}
use Rattle.std.specs.Global.{Global}
use Rattle.std.specs.Map.{lookup}
use Rattle.indexmap.specs.IndexMap.{IndexMap}
use Rattle.spec_lexing.specs.declared.kind_def.KindDef.{KindDef}
use Rattle.spec_lexing.specs.declared.kind_def.KindDef.TheVariants.{Word, Token}
use Rattle.spec_grammar.specs.declared.rule.Symbol.{Symbol}
use Rattle.spec_grammar.specs.declared.rule.Symbol.TheVariants.{Category, Kind}
use Rattle.spec_grammar.specs.Grammars.{HasDistinctNames}
use Rattle.numbered_grammar.specs.Making.{grammar_of_symbols}

-- the categories from this number on, each by its name
abbrev pub categories_from : ℕ → List (List ℕ) → List (List ℕ × Symbol)
categories_from number [] = []
categories_from number (name ∷ names) =
    (name, Category number) ∷ categories_from (number + 1) names

-- the kinds from this number on that are no words, each by its name
abbrev pub kinds_from : ℕ → List KindDef → List (List ℕ × Symbol)
kinds_from number [] = []
kinds_from number (Word word ∷ kinds) = kinds_from (number + 1) kinds
kinds_from number (Token name expr ∷ kinds) =
    (name, Kind number) ∷ kinds_from (number + 1) kinds

-- the symbols that have names, each by its name
abbrev pub named_symbols : List (List ℕ) → List KindDef → List (List ℕ × Symbol)
named_symbols categories kinds = categories_from 0 categories ++ kinds_from 0 kinds

-- the entries of the map, each with the bytes of its key
abbrev pub entries_in : {S : Type 0} → IndexMap (Vec ℕ Global) Symbol S → List (List ℕ × Symbol)
entries_in places =
    map (λ (entry : Vec ℕ Global × Symbol). (entry.0.items, entry.1)) places.entries

-- the symbol that the entries have for the name
abbrev pub symbol_in : List (List ℕ × Symbol) → List ℕ → Option Symbol
symbol_in entries name = lookup (bytes_eq name) entries

-- the map has the symbols that have names
abbrev pub ArePlacesOf :
    {S : Type 0} → List (List ℕ) → List KindDef → IndexMap (Vec ℕ Global) Symbol S → Type 0
ArePlacesOf categories kinds places = entries_in places ≡ named_symbols categories kinds

-- the symbol is among the entries by this name
abbrev pub HasEntry : List (List ℕ × Symbol) → List ℕ → Symbol → Type 0
HasEntry entries name symbol = Contains entries (name, symbol)

-- a name has one symbol at most among the entries
abbrev pub HasOneEach : List (List ℕ × Symbol) → Type 0
HasOneEach entries =
    (name : List ℕ) (s t : Symbol) → HasEntry entries name s → HasEntry entries name t → s ≡ t

-- the symbol is told to be added by its name, which had none; or it is not, since it had one
abbrev pub AddsSymbol :
    List (List ℕ × Symbol) → List (List ℕ × Symbol) → List ℕ → Symbol → Bool → Type 0
AddsSymbol old new name symbol true =
    (symbol_in old name ≡ None) × (new ≡ old ++ (name, symbol) ∷ [])
AddsSymbol old new name symbol false = is_some (symbol_in old name) ≡ true

-- likewise of a kind, if it is no word
abbrev pub AddsKind :
    List (List ℕ × Symbol) → List (List ℕ × Symbol) → KindDef → ℕ → Bool → Type 0
AddsKind old new (Word word) number added = (added ≡ true) × (new ≡ old)
AddsKind old new (Token name expr) number added = AddsSymbol old new name (Kind number) added

-- these entries are told to be added, and each name has one symbol; or two symbols have one name
abbrev pub AddsAll : List (List ℕ × Symbol) → List (List ℕ × Symbol) → Bool → Type 0
AddsAll new wanted true = (new ≡ wanted) × HasOneEach wanted
AddsAll new wanted false = HasOneEach wanted → ⊥

-- the map of the names, and None exactly where two symbols have one name
abbrev pub GivesPlaces : {S : Type 0} → List (List ℕ) → List KindDef
    → Option (IndexMap (Vec ℕ Global) Symbol S) → Type 0
GivesPlaces categories kinds found =
    MatchOption found (HasDistinctNames (grammar_of_symbols categories kinds) → ⊥)
    (λ places. ArePlacesOf categories kinds places
    × HasDistinctNames (grammar_of_symbols categories kinds))
