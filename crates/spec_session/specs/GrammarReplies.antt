-- The reply to a grammar, as one line with its LF: it is accepted, or refused for one reason.
use Rattle.std.specs.Prelude.{◌≡◌, ℕ, ◌<◌, ◌≤◌, List, [], ◌++◌, length, codes, decimal}
use Rattle.spec_text.specs.declared.limits.TheConstants.{MAX_SYMBOLS}
use Rattle.spec_automata.specs.States.{HasTooManyStates}
use Rattle.spec_lbnf.specs.declared.definition.Def.{Def}
use Rattle.spec_lbnf.specs.declared.fault.TextFault.{TextFault}
use Rattle.spec_lbnf.specs.declared.fault.TextFault.TheVariants as file
use Rattle.spec_lbnf.specs.declared.fault.GrammarFault.{GrammarFault}
use Rattle.spec_lbnf.specs.declared.fault.GrammarFault.TheVariants as made
use Rattle.spec_lbnf.specs.Faults.{Spells, IsFirstFault}
use Rattle.spec_grammar.specs.Grammars.{Grammar, symbol_count}
use Rattle.spec_lbnf.specs.Expansion.{expansion_of}
use Rattle.spec_lbnf.specs.Checks.{AreFit, IsUnfit}
use Rattle.spec_session.specs.Lines.{as_line, with_number, with_name, with_both}

-- the definitions are accepted: they pass all checks, the automaton of their kinds has at most 1,023
-- states, and their grammar at most 2,048 symbols
pub record AreAccepted (defs : List Def) : Type 0 where
  pub fit : AreFit defs
  pub few_states : HasTooManyStates (expansion_of defs).lexicon → ⊥
  pub few : symbol_count (expansion_of defs) ≤ MAX_SYMBOLS

-- the block is accepted as this grammar
abbrev pub IsAccepted : List ℕ → Grammar → Type 0
IsAccepted block g =
    (defs : List Def) × Spells block defs × AreAccepted defs × (g ≡ expansion_of defs)

-- the reply to a grammar that is accepted: how many rules, categories and kinds it has
abbrev pub grammar_reply : Grammar → List ℕ
grammar_reply g =
    codes "grammar rules " ++ (decimal (length g.rules)
    ++ (codes " categories " ++ (decimal (length g.categories)
    ++ (codes " kinds " ++ as_line (decimal (length g.lexicon.kinds))))))

-- the line that refuses a grammar for this reason
abbrev pub refusal_line : List ℕ → List ℕ
refusal_line reason = codes "grammar refused " ++ as_line reason

-- the reason of a fault of a grammar file; want of memory is none, and has no word
abbrev pub fault_reason : TextFault → List ℕ
fault_reason file.Memory = []
fault_reason (file.TooLarge count) = with_number (codes "large") count
fault_reason (file.NotUtf8 at) = with_number (codes "utf8") at
fault_reason (file.Syntax at) = with_number (codes "syntax") at
fault_reason (file.Unsupported word at) = with_both (codes "unsupported") word at
fault_reason (file.BadDifference at) = with_number (codes "difference") at

-- the reason why definitions are unfit; want of memory is none, and has no word
abbrev pub unfit_reason : GrammarFault → List ℕ
unfit_reason made.Memory = []
unfit_reason (made.BadCoercion number) = with_number (codes "coercion") number
unfit_reason (made.BadList number) = with_number (codes "list") number
unfit_reason (made.TooManyRules count) = with_number (codes "rules") count
unfit_reason (made.RepeatedToken name) = with_name (codes "token") name
unfit_reason (made.UnknownCategory name number) = with_both (codes "category") name number
unfit_reason (made.Cyclic name) = with_name (codes "cyclic") name

-- the reason where there are too many states
abbrev pub states_reason : List ℕ
states_reason = codes "states"

-- the reason where there are too many symbols, so many
abbrev pub symbols_reason : ℕ → List ℕ
symbols_reason count = with_number (codes "symbols") count

-- the block is refused for this reason: for the first fault of the file; or else since its
-- definitions are unfit; or else for too many states; or else for too many symbols
pub data IsRefusedFor (block reason : List ℕ) : Type 0 where
  faulty : (fault : TextFault) → IsFirstFault block fault → reason ≡ fault_reason fault
      → IsRefusedFor block reason
  unfit : (defs : List Def) (why : GrammarFault) → Spells block defs → IsUnfit defs why
      → reason ≡ unfit_reason why → IsRefusedFor block reason
  too_many_states : (defs : List Def) → Spells block defs → AreFit defs
      → HasTooManyStates (expansion_of defs).lexicon → reason ≡ states_reason
      → IsRefusedFor block reason
  too_many_symbols : (defs : List Def) → Spells block defs → AreFit defs
      → (HasTooManyStates (expansion_of defs).lexicon → ⊥)
      → MAX_SYMBOLS < symbol_count (expansion_of defs)
      → reason ≡ symbols_reason (symbol_count (expansion_of defs)) → IsRefusedFor block reason

-- the block is refused with this line
abbrev pub IsRefused : List ℕ → List ℕ → Type 0
IsRefused block line =
    (reason : List ℕ) × IsRefusedFor block reason × (line ≡ refusal_line reason)
