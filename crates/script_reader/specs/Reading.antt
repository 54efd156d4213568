-- What a caller sees of reading a script: the part that was taken, and why reading stops. Offsets
-- are told before and after, and so are the bytes that come.
use Rattle.std.specs.Prelude.{◌≡◌, ℕ, ◌+◌, ◌^◌, ◌<◌, ◌≤◌, List, [], ◌∷◌, ◌++◌, length, codes}
use Rattle.std.specs.Prelude.{Option, Some}
use Rattle.cyk_io.specs.declared.fault.IoFault.{IoFault}
use Rattle.cyk_io.specs.declared.fault.IoFault.TheVariants.{Read, Write, Memory}
use Rattle.cyk_io.specs.Streams.{Takes}
use Rattle.cyk_io.specs.Lines.{IsLine}
use Rattle.spec_text.specs.declared.limits.TheConstants.{MAX_FILE}
use Rattle.spec_script.specs.declared.limits.TheConstants.{MAX_BLOCK}
use Rattle.spec_script.specs.Script.{opens, edits, ask, Part, grammar, of_command, text_of}
use Rattle.spec_script.specs.Script.{IsWithinLimits, Script, any_order, BreaksAt}
use Rattle.script_reader.specs.declared.command.Block.{Block}
use Rattle.script_reader.specs.declared.command.Block.TheVariants.{Kept, TooLong}
use Rattle.script_reader.specs.declared.command.Head.{Head}
use Rattle.script_reader.specs.declared.command.Command.{Command}
use Rattle.script_reader.specs.declared.command.Command.TheVariants.{Open, Edit, Ask, End}
use Rattle.script_reader.specs.declared.stop.Stop.{Stop}
use Rattle.script_reader.specs.declared.stop.Stop.TheVariants.{Breaks, Fault}
use Rattle.script_reader.specs.Forms.{query_of, head_line, IsShortHead}

-- the part was taken
pub record TakesPart (from to : ℕ) (old new : Option (List ℕ)) (part : Part) : Type 0 where
  pub early : from < 2 ^ 48
  pub within_limits : IsWithinLimits part
  pub taken : Takes old new (text_of part)
  pub offset : to ≡ from + length (text_of part)

-- what is known of a block: its bytes, where there are at most so many, or else how many they are
abbrev pub IsBlock : ℕ → Block → List ℕ → Type 0
IsBlock most (Kept bytes) block = (bytes.items ≡ block) × (length block ≤ most)
IsBlock most (TooLong count) block = (count ≡ length block) × (most < count)

-- a grammar was taken, of whose block this is known
abbrev pub TakesGrammar : ℕ → ℕ → Option (List ℕ) → Option (List ℕ) → Block → Type 0
TakesGrammar from to old new known =
    (block : List ℕ) × IsBlock MAX_FILE known block × TakesPart from to old new (grammar block)

-- the line `end` was taken
pub record TakesEnd (from to : ℕ) (old new : Option (List ℕ)) : Type 0 where
  pub early : from < 2 ^ 48
  pub taken : Takes old new (codes "end" ++ 10 ∷ [])
  pub offset : to ≡ from + 4

-- the line of a command was taken, or the line `end`, which tells this
pub record TakesHead (from to : ℕ) (old new : Option (List ℕ)) (told : Head) : Type 0 where
  pub early : from < 2 ^ 48
  pub is_line : IsLine 256 (head_line told)
  pub is_short : IsShortHead told
  pub taken : Takes old new (head_line told ++ 10 ∷ [])
  pub offset : to ≡ from + length (head_line told) + 1

-- the command was taken with its block, of which this is known, or the line `end`
abbrev pub TakesCommand : ℕ → ℕ → Option (List ℕ) → Option (List ℕ) → Command → Type 0
TakesCommand from to old new (Open known) =
    (text : List ℕ) × IsBlock MAX_BLOCK known text
    × TakesPart from to old new (of_command (opens text))
TakesCommand from to old new (Edit at deleted known) =
    (inserted : List ℕ) × IsBlock MAX_BLOCK known inserted
    × TakesPart from to old new (of_command (edits at deleted inserted))
TakesCommand from to old new (Ask query) =
    TakesPart from to old new (of_command (ask (query_of query)))
TakesCommand from to old new End = TakesEnd from to old new

-- the fault is one that a call may answer that reads and does not write
abbrev pub IsOfReading : IoFault → Type 0
IsOfReading Read = Unit {0}
IsOfReading Write = ⊥
IsOfReading Memory = Unit {0}

-- behind the script, from this offset on, reading stops so: the script is broken at this place, or
-- reading failed
abbrev pub StopsBehind : Script → ℕ → Option (List ℕ) → Stop → Type 0
StopsBehind script from old (Breaks place) =
    (told : List ℕ) → old ≡ Some told → BreaksAt any_order script from told place
StopsBehind script from old (Fault fault) = IsOfReading fault
