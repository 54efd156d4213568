-- What is true of expansion and of its checks, for every list of definitions, and of the size of
-- what a file spells.
use Rattle.std.specs.Prelude.{◌≡◌, ℕ, ◌*◌, ◌≤◌, ◌↔◌, List, length, Some, slice_get, Contains}
use Rattle.std.specs.Prelude.{IfSome, All, IsUtf8, flat_map}
use Rattle.spec_lexing.specs.declared.expression.Expr.{Expr}
use Rattle.spec_lexing.specs.Classes.{IsSound, IsSoundDef}
use Rattle.spec_lexing.specs.Expressions.{expression_of}
use Rattle.spec_grammar.specs.Cycles.{IsAcyclic}
use Rattle.spec_lbnf.specs.declared.definition.Def.{Def}
use Rattle.spec_lbnf.specs.declared.fault.GrammarFault.{GrammarFault}
use Rattle.spec_lbnf.specs.declared.fault.GrammarFault.TheVariants.{Memory as GrammarMemory}
use Rattle.spec_lbnf.specs.declared.fault.TextFault.TheVariants.{Memory as FileMemory}
use Rattle.spec_lbnf.specs.Differences.{IsProper}
use Rattle.spec_lbnf.specs.Faults.{Spells, IsFirstFault}
use Rattle.spec_lbnf.specs.Limits.{size_of, AreFewAndSmall}
use Rattle.spec_grammar.specs.Grammars.{Grammar, name_number, HasOwnSymbols}
use Rattle.spec_lbnf.specs.Expansion.{rules_of, distinct, words_of, token_in, expansion_of}
use Rattle.spec_grammar.specs.Grammars.{IsSymbolOf, HasDistinctNames}
use Rattle.spec_lbnf.specs.Checks.{HasOwnNames, AreAllKnown, IsFirstCyclic, AreFit, IsUnfit}

-- the rules that definitions give have symbols of their grammar alone
abbrev pub OwnSymbols : Type 0
OwnSymbols = (defs : List Def) → HasOwnSymbols (expansion_of defs)

-- where all categories are known, the entry is a symbol of the grammar
abbrev pub OwnEntry : Type 0
OwnEntry =
    (defs : List Def) → AreAllKnown defs
    → IfSome (expansion_of defs).entry (IsSymbolOf (expansion_of defs))

-- where no definition repeats a name, no two symbols of the grammar have one name
abbrev pub OneSymbolEach : Type 0
OneSymbolEach = (defs : List Def) → HasOwnNames defs → HasDistinctNames (expansion_of defs)

-- the expression of the token is sound
abbrev pub IsSoundToken : List ℕ × Expr → Type 0
IsSoundToken token = IsSound (expression_of token.1)

-- where words are UTF-8 and the expressions of token definitions are sound, the kinds of the grammar
-- are sound
abbrev pub SoundKinds : Type 0
SoundKinds =
    (defs : List Def) → All IsUtf8 (words_of (rules_of defs))
    → All IsSoundToken (flat_map token_in defs) → All IsSoundDef (expansion_of defs).lexicon.kinds

-- no definitions are fit and unfit
abbrev pub FitOrUnfit : Type 0
FitOrUnfit = (defs : List Def) (fault : GrammarFault) → AreFit defs → IsUnfit defs fault → ⊥

-- definitions are unfit for one reason
abbrev pub OneUnfitness : Type 0
OneUnfitness =
    (defs : List Def) (a b : GrammarFault) → IsUnfit defs a → IsUnfit defs b → a ≡ b

-- no first fault of a file is want of memory
abbrev pub NoMemoryFault : Type 0
NoMemoryFault = (bytes : List ℕ) → IsFirstFault bytes FileMemory → ⊥

-- no definitions are unfit for want of memory
abbrev pub NoMemoryUnfitness : Type 0
NoMemoryUnfitness = (defs : List Def) → IsUnfit defs GrammarMemory → ⊥

-- no grammar both is without a cycle and has a first cyclic category
abbrev pub AcyclicOrCyclic : Type 0
AcyclicOrCyclic =
    (g : Grammar) (name : List ℕ) → IsAcyclic g.rules → IsFirstCyclic g name → ⊥

-- at most one text is that of the first cyclic category
abbrev pub OneCyclic : Type 0
OneCyclic =
    (g : Grammar) (a b : List ℕ) → IsFirstCyclic g a → IsFirstCyclic g b → a ≡ b

-- the number of a listed name is a place where that name stands
abbrev pub NumbersNameBack : Type 0
NumbersNameBack =
    (names : List (List ℕ)) (name : List ℕ) → Contains names name
    → slice_get names (name_number names name) ≡ Some name

-- a list without repetitions has each name of the list, no other, and none at two places
pub record IsDistinctOf (names xs : List (List ℕ)) : Type 0 where
  pub same : (name : List ℕ) → Contains xs name ↔ Contains names name
  pub once : (i j : ℕ) (name : List ℕ)
      → slice_get xs i ≡ Some name → slice_get xs j ≡ Some name → i ≡ j

-- the list that `distinct` gives has each name of the list once
abbrev pub DistinctNames : Type 0
DistinctNames = (names : List (List ℕ)) → IsDistinctOf names (distinct names)

-- a file has at least two bytes for each of these
abbrev pub TwoBytesForEach : Type 0
TwoBytesForEach =
    (bytes : List ℕ) (defs : List Def) → Spells bytes defs → 2 * size_of defs ≤ length bytes

-- what a file spells is within the limits
abbrev pub DefsWithinLimits : Type 0
DefsWithinLimits = (bytes : List ℕ) (defs : List Def) → Spells bytes defs → AreFewAndSmall defs

-- the expressions of what a file spells are sound, and its comments have texts
abbrev pub ProperDefs : Type 0
ProperDefs = (bytes : List ℕ) (defs : List Def) → Spells bytes defs → All IsProper defs
