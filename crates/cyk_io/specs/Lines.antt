-- What a read of a line finds in the bytes that come. A line ends before its LF, the byte 10.
use Rattle.std.specs.Prelude.{◌≡◌, ◌≢◌, ℕ, ◌+◌, ◌≤◌, List, [], ◌∷◌, ◌++◌, length, Option, Some}
use Rattle.std.specs.List.{All}
use Rattle.cyk_io.specs.declared.fault.IoFault.{IoFault}
use Rattle.cyk_io.specs.declared.fault.IoFault.TheVariants.{Read, Write, Memory}
use Rattle.cyk_io.specs.declared.line.ReadLine.{ReadLine}
use Rattle.cyk_io.specs.declared.line.ReadLine.TheVariants.{Line, LongLine, Ended}
use Rattle.cyk_io.specs.Streams.{Takes, IsAtEnd, ReadAhead}

-- none of the bytes is an LF
abbrev pub HasNoLf : List ℕ → Type 0
HasNoLf bytes = All (λ byte. byte ≢ 10) bytes

-- the bytes before an LF, of which there are at most so many
abbrev pub IsLine : ℕ → List ℕ → Type 0
IsLine most line = HasNoLf line × (length line ≤ most)

-- what was found, read from one offset to another: a line and its LF; one byte more than a line may
-- have, and no LF among them; or a line that the input ends behind, with no LF
abbrev pub LineReads : ℕ → ℕ → ℕ → Option (List ℕ) → Option (List ℕ) → List ℕ → ReadLine → Type 0
LineReads most from to old new line Line =
    Takes old new (line ++ 10 ∷ []) × IsLine most line × (to ≡ from + length line + 1)
LineReads most from to old new line (LongLine at) =
    (last : ℕ) × Takes old new (line ++ last ∷ []) × HasNoLf (line ++ last ∷ [])
    × (length line ≡ most)
    × (at ≡ from) × (to ≡ from + most + 1)
LineReads most from to old new line (Ended at) =
    Takes old new line × IsAtEnd new × IsLine most line × (at ≡ from + length line) × (to ≡ at)

-- only a read may fail: what the source gave from the offset on is then the line so far, with no LF
abbrev pub LineFails : ℕ → ℕ → ReadAhead → Option (List ℕ) → Option (List ℕ) → List ℕ
    → IoFault → Type 0
LineFails most from ahead old left line Read =
    Takes old left line × HasNoLf line × (length line ≤ most) × (ahead.held ≡ [])
    × (ahead.offset ≡ from + length line)
LineFails most from ahead old left line Write = ⊥
LineFails most from ahead old left line Memory = ⊥

-- where the bytes that come are told, some answer describes a read of a line
abbrev pub EachLineHasAnAnswer : Type 0
EachLineHasAnAnswer =
    (most from : ℕ) (told : List ℕ)
    → (answer : ReadLine) × (to : ℕ) × (new : Option (List ℕ)) × (line : List ℕ)
    × LineReads most from to (Some told) new line answer

-- where the bytes that come are told, two reads of a line give the same answer, and the same line,
-- rest and offset
abbrev pub EachLineHasOneAnswer : Type 0
EachLineHasOneAnswer =
    (most from : ℕ) (told : List ℕ) (answer other : ReadLine) (to to_other : ℕ)
    (new new_other : Option (List ℕ)) (line line_other : List ℕ)
    → LineReads most from to (Some told) new line answer
    → LineReads most from to_other (Some told) new_other line_other other
    → (answer ≡ other) × (line ≡ line_other) × (new ≡ new_other) × (to ≡ to_other)
