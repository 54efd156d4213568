-- Serves the proofs alone: the lines and blocks of which a script's parts are made.
use Rattle.std.specs.Prelude.{◌≡◌, ℕ, ◌+◌, ◌^◌, ◌<◌, ◌≤◌, List, [], ◌∷◌, ◌++◌, length, decimal}
use Rattle.std.specs.Prelude.{codes, Option, Some}
use Rattle.cyk_io.specs.Streams.{Takes}
use Rattle.cyk_io.specs.Lines.{IsLine}
use Rattle.script_reader.specs.declared.command.Block.{Block}
use Rattle.script_reader.specs.declared.stop.Stop.{Stop}
use Rattle.script_reader.specs.declared.stop.Stop.TheVariants.{Breaks, Fault}
use Rattle.script_reader.specs.Reading.{IsBlock, IsOfReading}

-- a line of at most 256 bytes was taken, which begins below 2 ^ 48
abbrev pub TakesLine : ℕ → ℕ → Option (List ℕ) → Option (List ℕ) → List ℕ → Type 0
TakesLine from to old new line =
    (from < 2 ^ 48) × Takes old new (line ++ 10 ∷ []) × IsLine 256 line
    × (to ≡ from + length line + 1)

-- the line of a grammar was taken, whose block has so many bytes
abbrev pub TakesGrammarLine : ℕ → ℕ → Option (List ℕ) → Option (List ℕ) → ℕ → Type 0
TakesGrammarLine from to old new count =
    (count < 10 ^ 9) × TakesLine from to old new (codes "grammar " ++ decimal count)

-- the block of so many bytes was taken with its LF
abbrev pub TakesBlock : ℕ → ℕ → ℕ → Option (List ℕ) → Option (List ℕ) → List ℕ → Type 0
TakesBlock count from to old new block =
    Takes old new (block ++ 10 ∷ []) × (length block ≡ count) × (to ≡ from + count + 1)

-- from this offset on no block of so many bytes comes with its LF: at this place another byte
-- stands where the LF should, or the input ends before it
pub data LacksBlock (count from : ℕ) (told : List ℕ) (place : ℕ) : Type 0 where
  other_byte : (block : List ℕ) (byte : ℕ) (more : List ℕ) → told ≡ block ++ (byte ∷ more)
      → length block ≡ count → (byte ≡ 10 → ⊥) → place ≡ from + count
      → LacksBlock count from told place
  too_short : length told ≤ count → place ≡ from + length told → LacksBlock count from told place

-- the reading of a block of so many bytes stops so: it doesn't come with its LF, or reading failed
abbrev pub StopsInBlock : ℕ → ℕ → Option (List ℕ) → Stop → Type 0
StopsInBlock count from old (Breaks place) =
    (told : List ℕ) → old ≡ Some told → LacksBlock count from told place
StopsInBlock count from old (Fault fault) = IsOfReading fault

-- some block of so many bytes was taken with its LF
abbrev pub PassesBlock : ℕ → ℕ → ℕ → Option (List ℕ) → Option (List ℕ) → Type 0
PassesBlock count from to old new = (block : List ℕ) × TakesBlock count from to old new block

-- a block of so many bytes was taken with its LF, and this is known of it
abbrev pub FindsBlock : ℕ → ℕ → ℕ → ℕ → Option (List ℕ) → Option (List ℕ) → Block → Type 0
FindsBlock most count from to old new known =
    (block : List ℕ) × IsBlock most known block × TakesBlock count from to old new block
