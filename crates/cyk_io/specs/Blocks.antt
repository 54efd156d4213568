-- What a read of a block of so many bytes finds in the bytes that come.
use Rattle.std.specs.Prelude.{◌≡◌, ℕ, ◌+◌, ◌<◌, ◌≤◌, List, [], length, Option, Some}
use Rattle.cyk_io.specs.declared.block.ReadBlock.{ReadBlock}
use Rattle.cyk_io.specs.declared.block.ReadBlock.TheVariants.{Kept, Skipped, Ended}
use Rattle.cyk_io.specs.declared.fault.IoFault.{IoFault}
use Rattle.cyk_io.specs.declared.fault.IoFault.TheVariants.{Read, Write, Memory}
use Rattle.cyk_io.specs.Streams.{Takes, Stays, IsAtEnd, ReadAhead}

-- what was found, read from one offset to another: a block that is kept; a longer one, of which
-- nothing is kept; or fewer bytes, behind which the input ends
abbrev pub BlockReads : ℕ → ℕ → ℕ → ℕ → Option (List ℕ) → Option (List ℕ) → List ℕ
    → ReadBlock → Type 0
BlockReads count keep from to old new into Kept =
    Takes old new into × (length into ≡ count) × (count ≤ keep) × (to ≡ from + count)
BlockReads count keep from to old new into Skipped =
    ((bytes : List ℕ) × Takes old new bytes × (length bytes ≡ count))
    × (keep < count) × (into ≡ []) × (to ≡ from + count)
BlockReads count keep from to old new into (Ended at) =
    (bytes : List ℕ) × Takes old new bytes × IsAtEnd new × (length bytes < count)
    × (at ≡ from + length bytes) × (to ≡ at)

-- a read failed within the block, or memory ran out before anything was taken
abbrev pub BlockFails :
    ℕ → ℕ → ℕ → ReadAhead → Option (List ℕ) → Option (List ℕ) → Option (List ℕ) → IoFault → Type 0
BlockFails count keep from ahead old new left Read =
    (bytes : List ℕ) × Takes old left bytes × (length bytes < count) × (ahead.held ≡ [])
    × (ahead.offset ≡ from + length bytes)
BlockFails count keep from ahead old new left Write = ⊥
BlockFails count keep from ahead old new left Memory =
    Stays old new × (count ≤ keep) × (ahead.offset ≡ from)

-- where the bytes that come are told, some answer describes a read of a block
abbrev pub EachBlockHasAnAnswer : Type 0
EachBlockHasAnAnswer =
    (count keep from : ℕ) (told : List ℕ)
    → (answer : ReadBlock) × (to : ℕ) × (new : Option (List ℕ)) × (into : List ℕ)
    × BlockReads count keep from to (Some told) new into answer

-- where the bytes that come are told, two reads of a block give the same answer, and the same rest
-- and offset
abbrev pub EachBlockHasOneAnswer : Type 0
EachBlockHasOneAnswer =
    (count keep from : ℕ) (told : List ℕ) (answer other : ReadBlock) (to to_other : ℕ)
    (new new_other : Option (List ℕ)) (into into_other : List ℕ)
    → BlockReads count keep from to (Some told) new into answer
    → BlockReads count keep from to_other (Some told) new_other into_other other
    → (answer ≡ other) × (new ≡ new_other) × (to ≡ to_other)
