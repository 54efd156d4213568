-- What a caller sees of a grammar that was accepted, with its automaton and its binary form, or
-- refused; and the line of each fault for which there is none.
use Rattle.std.specs.Prelude.{◌≡◌, ℕ, ◌<◌, ◌≤◌, List, Some, Option, None, Result, Ok, Err}
use Rattle.spec_text.specs.declared.limits.TheConstants.{MAX_SYMBOLS}
use Rattle.spec_lexing.specs.Lexicon.{Lexicon}
use Rattle.spec_automata.specs.States.{HasTooManyStates}
use Rattle.spec_lbnf.specs.declared.definition.Def.{Def}
use Rattle.spec_lbnf.specs.declared.fault.TextFault.{TextFault}
use Rattle.spec_lbnf.specs.declared.fault.TextFault.TheVariants.{Memory as TextMemory}
use Rattle.spec_lbnf.specs.declared.fault.GrammarFault.{GrammarFault}
use Rattle.spec_lbnf.specs.declared.fault.GrammarFault.TheVariants.{Memory as GrammarMemory}
use Rattle.spec_lbnf.specs.Expansion.{expansion_of}
use Rattle.spec_lbnf.specs.Faults.{IsFirstFault, IsSmallText, Spells}
use Rattle.spec_lbnf.specs.Checks.{AreFit, IsUnfit}
use Rattle.spec_grammar.specs.Grammars.{Grammar, HasDistinctNames, symbol_count}
use Rattle.spec_session.specs.GrammarReplies.{fault_reason, unfit_reason}
use Rattle.spec_session.specs.GrammarReplies.{states_reason, symbols_reason, refusal_line}
use Rattle.lbnf_regex.specs.Automata.{Machine}
use Rattle.lbnf_regex.specs.declared.lex_fault.LexFault.{LexFault}
use Rattle.lbnf_regex.specs.declared.lex_fault.LexFault.TheVariants.{Memory as LexMemory}
use Rattle.lbnf_regex.specs.declared.lex_fault.LexFault.TheVariants.{TooManyStates}
use Rattle.text_store.specs.TextStore.{Lexes}
use Rattle.binary_form.specs.declared.fault.BinaryFault.{BinaryFault}
use Rattle.binary_form.specs.declared.fault.BinaryFault.TheVariants.{Memory as BinaryMemory}
use Rattle.binary_form.specs.declared.fault.BinaryFault.TheVariants.{TooManySymbols}
use Rattle.chart_service.specs.declared.accepting.LanguageFault.{LanguageFault}
use Rattle.chart_service.specs.declared.accepting.LanguageFault.TheVariants.{Memory, Text, Lex, Binary}
use Rattle.chart_service.specs.declared.accepting.LanguageFault.TheVariants.{Grammar as Unfit}

-- texts can be opened under the grammar, over cells with this room: its names are distinct, and its
-- symbols have room
pub record CanOpen (room : ℕ) (g : Grammar) : Type 0 where
  pub names : HasDistinctNames g
  pub few : symbol_count g ≤ room

-- an automaton is made that lexes texts as the lexicon does, where there are not too many states;
-- or there are, or there is no memory for it
abbrev pub MakesLexer : Lexicon → Result Machine LexFault → Type 0
MakesLexer lexicon (Ok a) = (HasTooManyStates lexicon → ⊥) × Lexes lexicon a
MakesLexer lexicon (Err LexMemory) = Unit {0}
MakesLexer lexicon (Err TooManyStates) = HasTooManyStates lexicon

-- a fault of each layer, as one of the language, where want of memory is the same of all: of what
-- is no file
abbrev pub of_text : TextFault → LanguageFault
of_text TextMemory = Memory
of_text fault = Text fault

-- what is spelled out and unfit
abbrev pub of_unfit : GrammarFault → LanguageFault
of_unfit GrammarMemory = Memory
of_unfit fault = Unfit fault

-- what has no automaton
abbrev pub of_lex : LexFault → LanguageFault
of_lex LexMemory = Memory
of_lex TooManyStates = Lex TooManyStates

-- what has no binary form
abbrev pub of_binary : BinaryFault → LanguageFault
of_binary BinaryMemory = Memory
of_binary fault = Binary fault

-- the block has no language for this fault: the first of the file; or else what it spells is unfit;
-- or else there are too many states; or else too many symbols. Memory may run out at each block
-- that is small and is text
abbrev pub IsFaultOf : List ℕ → LanguageFault → Type 0
IsFaultOf block Memory = IsSmallText block
IsFaultOf block (Text fault) = IsFirstFault block fault
IsFaultOf block (Unfit fault) = (defs : List Def) × Spells block defs × IsUnfit defs fault
IsFaultOf block (Lex LexMemory) = ⊥
IsFaultOf block (Lex TooManyStates) =
    (defs : List Def) × Spells block defs × AreFit defs
    × HasTooManyStates (expansion_of defs).lexicon
IsFaultOf block (Binary BinaryMemory) = ⊥
IsFaultOf block (Binary (TooManySymbols count)) =
    (defs : List Def) × Spells block defs × AreFit defs
    × (HasTooManyStates (expansion_of defs).lexicon → ⊥)
    × (count ≡ symbol_count (expansion_of defs)) × (MAX_SYMBOLS < count)

-- the reason that is told of a fault, and None for want of memory
abbrev pub reason_of : LanguageFault → Option (List ℕ)
reason_of Memory = None
reason_of (Text TextMemory) = None
reason_of (Text fault) = Some (fault_reason fault)
reason_of (Unfit GrammarMemory) = None
reason_of (Unfit fault) = Some (unfit_reason fault)
reason_of (Lex LexMemory) = None
reason_of (Lex TooManyStates) = Some states_reason
reason_of (Binary BinaryMemory) = None
reason_of (Binary (TooManySymbols count)) = Some (symbols_reason count)

-- the line refuses a grammar for this fault; there is none for want of memory
abbrev pub IsRefusal : LanguageFault → List ℕ → Type 0
IsRefusal fault line =
    (reason : List ℕ) × (reason_of fault ≡ Some reason) × (line ≡ refusal_line reason)
