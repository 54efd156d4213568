-- What is true of what a grammar file spells and of its first fault, for every file.
use Rattle.std.specs.Prelude.{◌≡◌, ℕ, ◌⊎◌, List}
use Rattle.spec_lbnf.specs.declared.definition.Def.{Def}
use Rattle.spec_lbnf.specs.declared.token.FileToken.{FileToken}
use Rattle.spec_lbnf.specs.GrammarFile.{SpellsDefs}
use Rattle.spec_lbnf.specs.declared.fault.TextFault.{TextFault}
use Rattle.spec_lbnf.specs.Faults.{Spells, IsFirstFault}

-- tokens spell at most one list of definitions
abbrev pub OneListOfDefs : Type 0
OneListOfDefs =
    (tokens : List FileToken) (a b : List Def) → SpellsDefs a tokens → SpellsDefs b tokens → a ≡ b

-- a file spells at most one list of definitions
abbrev pub OneFileOfDefs : Type 0
OneFileOfDefs = (bytes : List ℕ) (a b : List Def) → Spells bytes a → Spells bytes b → a ≡ b

-- a file has at most one first fault
abbrev pub OneFirstFault : Type 0
OneFirstFault =
    (bytes : List ℕ) (a b : TextFault) → IsFirstFault bytes a → IsFirstFault bytes b → a ≡ b

-- no file both spells definitions and has a first fault
abbrev pub SpelledOrFaulty : Type 0
SpelledOrFaulty =
    (bytes : List ℕ) (defs : List Def) (fault : TextFault) → Spells bytes defs
    → IsFirstFault bytes fault → ⊥

-- each file spells definitions or has a first fault
abbrev pub DefsOrFault : Type 0
DefsOrFault =
    (bytes : List ℕ)
    → ((defs : List Def) × Spells bytes defs) ⊎ ((fault : TextFault) × IsFirstFault bytes fault)
