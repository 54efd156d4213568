-- What the functions of src/laws.rt say of charts.
use Rattle.std.specs.Prelude.{ℕ, ◌<◌, ◌≤◌, ◌↔◌, List, Option, length, Contains}
use Rattle.spec_grammar.specs.Grammars.{Grammar, symbol_count}
use Rattle.cell_sets.specs.Grids.{entry}
use Rattle.binary_form.specs.Symbols.{BinarySymbol, BinaryDerives, IsBinarySymbolOf}
use Rattle.binary_form.specs.Symbols.{symbol_number}
use Rattle.valiant.specs.Charts.{ChartValue, IsEntryOf, IsChartOf}

-- a symbol's number is in the entry of a span exactly where the symbol derives the span
abbrev pub EntriesTellDerivation : Type 0
EntriesTellDerivation =
    (g : Grammar) (kinds : List (Option ℕ)) (i j : ℕ) (numbers : List ℕ) (a : BinarySymbol)
    → IsEntryOf g kinds i j numbers → IsBinarySymbolOf g a
    → Contains numbers (symbol_number g a) ↔ BinaryDerives g.rules kinds a i j

-- an entry has numbers of symbols alone
abbrev pub EntriesAreOfSymbols : Type 0
EntriesAreOfSymbols =
    (g : Grammar) (kinds : List (Option ℕ)) (i j n : ℕ) (numbers : List ℕ)
    → IsEntryOf g kinds i j numbers → Contains numbers n → n < symbol_count g

-- charts that stand for the same kinds have the same numbers in each entry
abbrev pub ChartsAgree : Type 0
ChartsAgree =
    (g : Grammar) (kinds : List (Option ℕ)) (one other : ChartValue)
    → IsChartOf g kinds one → IsChartOf g kinds other → (i j n : ℕ) → i < j → j ≤ length kinds
    → Contains (entry one.entries i j) n ↔ Contains (entry other.entries i j) n
