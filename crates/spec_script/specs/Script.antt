-- The parts of a script, and how an input spells them: a script is a header, a grammar, and then
-- commands; each part is one line and, where it has one, a block.
use Rattle.std.specs.Prelude.{◌≡◌, ℕ, ◌+◌, ◌^◌, ◌<◌, ◌≤◌, List, [], ◌∷◌, ◌++◌, length, codes}
use Rattle.std.specs.Prelude.{decimal, All}
use Rattle.spec_script.specs.declared.question.Constituent.{Constituent as Named}
use Rattle.spec_script.specs.declared.question.Constituent.TheVariants.{EntryWhole, NamedWhole}
use Rattle.spec_script.specs.declared.question.Constituent.TheVariants.{NamedSpan}
use Rattle.spec_script.specs.declared.question.TokenSpan.{TokenSpan}
use Rattle.spec_script.specs.declared.question.TokenSpan.TheVariants.{Whole, Span}

-- the constituent that a question names: the grammar's entry over the whole text, or what has a
-- name, a category or a kind of token, over the whole text or over a span of tokens
abbrev pub Constituent : Type 0
Constituent = Named (List ℕ)

-- what may be asked of a text: whether a constituent is derived, what its first tree is, and what
-- the tokens of a span are
pub data Query : Type 0 where
  has : (constituent : Constituent) → Query
  tree : (constituent : Constituent) → Query
  tokens_in : (span : TokenSpan) → Query

-- the commands behind a grammar: a text is opened, so many bytes of it from a place on are replaced
-- by others, or a query is asked of it
pub data Command : Type 0 where
  opens : (text : List ℕ) → Command
  edits : (at deleted : ℕ) (inserted : List ℕ) → Command
  ask : (query : Query) → Command

-- a part of a script: the header, a grammar, or a command
pub data Part : Type 0 where
  header : Part
  grammar : (block : List ℕ) → Part
  of_command : (command : Command) → Part

-- a script up to where it ends: its front is nothing, the header alone, or the header and a
-- grammar, and commands may stand behind the grammar
pub data Script : Type 0 where
  nothing : Script
  header_alone : Script
  with_grammar : (block : List ℕ) (commands : List Command) → Script

-- the commands as parts
abbrev pub as_parts : List Command → List Part
as_parts [] = []
as_parts (command ∷ commands) = of_command command ∷ as_parts commands

-- the parts of the script
abbrev pub parts_of : Script → List Part
parts_of nothing = []
parts_of header_alone = header ∷ []
parts_of (with_grammar block commands) = header ∷ grammar block ∷ as_parts commands

-- the two ends of a span, with a space between them
abbrev pub ends_text : ℕ → ℕ → List ℕ
ends_text first end = decimal first ++ (32 ∷ decimal end)

-- how a question's line names the constituent behind its first word, each part behind a space
abbrev pub constituent_text : Constituent → List ℕ
constituent_text EntryWhole = []
constituent_text (NamedWhole name) = 32 ∷ name
constituent_text (NamedSpan name first end) = 32 ∷ (name ++ (32 ∷ ends_text first end))

-- how it names the span of tokens there
abbrev pub span_text : TokenSpan → List ℕ
span_text Whole = []
span_text (Span first end) = 32 ∷ ends_text first end

-- how an edit's line tells its place and how many bytes go and come, with a space between each two
abbrev pub edit_text : ℕ → ℕ → ℕ → List ℕ
edit_text at deleted count = decimal at ++ (32 ∷ (decimal deleted ++ (32 ∷ decimal count)))

-- the line that asks the query, without its LF
abbrev pub query_line : Query → List ℕ
query_line (has constituent) = codes "has" ++ constituent_text constituent
query_line (tree constituent) = codes "tree" ++ constituent_text constituent
query_line (tokens_in span) = codes "tokens" ++ span_text span

-- the line of the part, without its LF
abbrev pub line_of : Part → List ℕ
line_of header = codes "script 1"
line_of (grammar block) = codes "grammar " ++ decimal (length block)
line_of (of_command (opens text)) = codes "open " ++ decimal (length text)
line_of (of_command (edits at deleted inserted)) =
    codes "edit " ++ edit_text at deleted (length inserted)
line_of (of_command (ask query)) = query_line query

-- what stands behind the line's LF: a block and its LF, or nothing
abbrev pub block_of : Part → List ℕ
block_of header = []
block_of (grammar block) = block ++ 10 ∷ []
block_of (of_command (opens text)) = text ++ 10 ∷ []
block_of (of_command (edits at deleted inserted)) = inserted ++ 10 ∷ []
block_of (of_command (ask query)) = []

-- the whole part
abbrev pub text_of : Part → List ℕ
text_of part = line_of part ++ (10 ∷ block_of part)

-- no byte is a space or LF
abbrev pub AreOfWord : List ℕ → Type 0
AreOfWord bytes = All (λ byte. (byte ≡ 32 → ⊥) × (byte ≡ 10 → ⊥)) bytes

-- the bytes are a word: one byte or more, none of them a space or LF
pub record IsWord (bytes : List ℕ) : Type 0 where
  pub some : 0 < length bytes
  pub each : AreOfWord bytes

-- the constituent's name is a word, and the ends of its span have nine digits at most
abbrev pub IsNameable : Constituent → Type 0
IsNameable EntryWhole = Unit {0}
IsNameable (NamedWhole name) = IsWord name
IsNameable (NamedSpan name first end) = IsWord name × (first < 10 ^ 9) × (end < 10 ^ 9)

-- the ends of the span have nine digits at most, where it names them
abbrev pub HasShortEnds : TokenSpan → Type 0
HasShortEnds Whole = Unit {0}
HasShortEnds (Span first end) = (first < 10 ^ 9) × (end < 10 ^ 9)

-- what the query names can be named
abbrev pub IsAskable : Query → Type 0
IsAskable (has constituent) = IsNameable constituent
IsAskable (tree constituent) = IsNameable constituent
IsAskable (tokens_in span) = HasShortEnds span

-- the part keeps the limits: its numbers have nine digits at most, among them the one that tells how
-- many bytes its block has; a query can be asked; and the line has 256 bytes at most
abbrev pub IsWithinLimits : Part → Type 0
IsWithinLimits header = Unit {0}
IsWithinLimits (grammar block) = length block < 10 ^ 9
IsWithinLimits (of_command (opens text)) = length text < 10 ^ 9
IsWithinLimits (of_command (edits at deleted inserted)) =
    (at < 10 ^ 9) × (deleted < 10 ^ 9) × (length inserted < 10 ^ 9)
IsWithinLimits (of_command (ask query)) = IsAskable query × (length (query_line query) ≤ 256)

-- a form of scripts: which commands may stand behind a grammar, and behind which of them the line
-- `end` may follow
pub record Form : Type 1 where
  pub MayStand : List Command → Type 0
  pub MayEnd : List Command → Type 0

-- the form of the scripts in which commands stand in any order, and which may end behind each
abbrev pub any_order : Form
any_order = record { MayStand = λ commands. Unit {0}; MayEnd = λ commands. Unit {0} }

-- the script is of this form: its commands, if it has any, may stand behind a grammar
abbrev pub IsInOrder : Form → Script → Type 0
IsInOrder form nothing = Unit {0}
IsInOrder form header_alone = Unit {0}
IsInOrder form (with_grammar block commands) = form.MayStand commands

-- the script has all that a script of this form needs, so that the line `end` may follow
abbrev pub IsComplete : Form → Script → Type 0
IsComplete form nothing = ⊥
IsComplete form header_alone = ⊥
IsComplete form (with_grammar block commands) = form.MayEnd commands

-- behind the script the part is in its place: the header behind nothing, a grammar behind the
-- header, and behind a grammar the next command that the form lets stand there
abbrev pub MayFollow : Form → Script → Part → Type 0
MayFollow form nothing header = Unit {0}
MayFollow form header_alone (grammar block) = Unit {0}
MayFollow form (with_grammar block commands) (of_command command) =
    form.MayStand (commands ++ command ∷ [])
MayFollow form script part = ⊥

-- the bytes from the offset `at` on begin with these parts, behind which `rest` stands at the
-- offset `end`; each line begins below 2 ^ 48
abbrev pub BeginsWithParts : ℕ → List ℕ → List Part → ℕ → List ℕ → Type 0
BeginsWithParts at bytes [] end rest = (end ≡ at) × (rest ≡ bytes)
BeginsWithParts at bytes (part ∷ parts) end rest =
    (more : List ℕ) × (at < 2 ^ 48) × IsWithinLimits part × (bytes ≡ text_of part ++ more)
    × BeginsWithParts (at + length (text_of part)) more parts end rest

-- the input begins with the script, behind which `rest` stands at the offset `at`
abbrev pub BeginsWithScript : List ℕ → Script → ℕ → List ℕ → Type 0
BeginsWithScript input script at rest = BeginsWithParts 0 input (parts_of script) at rest

-- at the offset `at` the rest goes on with one more part, in its place
pub record GoesOn (form : Form) (script : Script) (at : ℕ) (rest : List ℕ) : Type 0 where
  pub part : Part
  pub more : List ℕ
  pub early : at < 2 ^ 48
  pub in_place : MayFollow form script part
  pub within_limits : IsWithinLimits part
  pub spelled : rest ≡ text_of part ++ more

-- at the offset `at` the rest begins with the line `end`, in its place
pub record HasEndLine (form : Form) (script : Script) (at : ℕ) (rest : List ℕ) : Type 0 where
  pub more : List ℕ
  pub early : at < 2 ^ 48
  pub complete : IsComplete form script
  pub spelled : rest ≡ codes "end" ++ (10 ∷ more)

-- how a script ends: by its line `end`, or broken at this offset
pub data Ending : Type 0 where
  ended : Ending
  broken : (at : ℕ) → Ending

-- none of the bytes is an LF
abbrev pub HasNoLf : List ℕ → Type 0
HasNoLf bytes = All (λ byte. byte ≡ 10 → ⊥) bytes

-- the part has a block of so many bytes
abbrev pub HasBlock : Part → ℕ → Type 0
HasBlock header count = ⊥
HasBlock (grammar block) count = count ≡ length block
HasBlock (of_command (opens text)) count = count ≡ length text
HasBlock (of_command (edits at deleted inserted)) count = count ≡ length inserted
HasBlock (of_command (ask query)) count = ⊥

-- at the offset `at` the rest begins with the line of a part in its place that has a block of so
-- many bytes; behind the line's LF the rest goes on with its block or in another way
pub record HasBlockLine (form : Form) (script : Script) (at : ℕ) (rest : List ℕ) : Type 0 where
  pub part : Part
  pub count : ℕ
  pub behind : List ℕ
  pub early : at < 2 ^ 48
  pub in_place : MayFollow form script part
  pub within_limits : IsWithinLimits part
  pub has_block : HasBlock part count
  pub spelled : rest ≡ line_of part ++ (10 ∷ behind)

-- behind the script the line is none of the forms, or out of its place: it is that of no part in
-- its place, and not the line `end` in its place
pub record IsNoForm (form : Form) (script : Script) (told : List ℕ) : Type 0 where
  pub no_part : (part : Part) → MayFollow form script part → IsWithinLimits part
      → told ≡ line_of part → ⊥
  pub no_end : IsComplete form script → told ≡ codes "end" → ⊥

-- behind the script, where the rest begins at the offset `at`, the script is broken at this place:
-- at the first byte of a line that begins at 2 ^ 48 or later, of one of more than 256 bytes, or of
-- one that is none of the forms or out of its place; at another byte in the place of a block's LF;
-- or at the input's length, where the input ends in a line or in a block or before its LF
pub data BreaksAt (form : Form) (script : Script) (at : ℕ) (rest : List ℕ) (place : ℕ)
    : Type 0 where
  late_line : 2 ^ 48 ≤ at → place ≡ at → BreaksAt form script at rest place
  long_line : (start more : List ℕ) → rest ≡ start ++ more → HasNoLf start → 256 < length start
      → place ≡ at → BreaksAt form script at rest place
  no_form : (told behind : List ℕ) → rest ≡ told ++ (10 ∷ behind) → HasNoLf told
      → IsNoForm form script told → place ≡ at → BreaksAt form script at rest place
  no_lf : (begun : HasBlockLine form script at rest) (block : List ℕ) (byte : ℕ) (more : List ℕ)
      → begun.behind ≡ block ++ (byte ∷ more) → length block ≡ begun.count → (byte ≡ 10 → ⊥)
      → place ≡ at + length (line_of begun.part ++ (10 ∷ block))
      → BreaksAt form script at rest place
  ends_in_line : at < 2 ^ 48 → HasNoLf rest → length rest ≤ 256 → place ≡ at + length rest
      → BreaksAt form script at rest place
  ends_in_block : (begun : HasBlockLine form script at rest) → length begun.behind ≤ begun.count
      → place ≡ at + length rest → BreaksAt form script at rest place

-- behind these parts the script ends so: its line `end` follows, or it is broken at this place
abbrev pub EndsAs : Form → Script → ℕ → List ℕ → Ending → Type 0
EndsAs form script at rest ended = HasEndLine form script at rest
EndsAs form script at rest (broken place) = BreaksAt form script at rest place

-- the input is this script of the form, which ends so; what stands behind its `end` or its break
-- has no effect
pub record IsScript (form : Form) (input : List ℕ) (script : Script) (ending : Ending)
    : Type 0 where
  pub at : ℕ
  pub rest : List ℕ
  pub in_order : IsInOrder form script
  pub begins : BeginsWithScript input script at rest
  pub ends : EndsAs form script at rest ending
