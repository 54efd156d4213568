-- Serves the proofs alone. Sets of positions as lists in rising order.
use Rattle.std.specs.Prelude.{◌≡◌, ℕ, ◌<◌, ◌↔◌, List, [], Contains, slice_index_or}
use Rattle.cell_sets.specs.Cells.{Adds, IsRising}
use Rattle.spec_automata.specs.ByteExpressions.{ByteExpression}
use Rattle.spec_automata.specs.Positions.{IsPositionOf}
use Rattle.lbnf_regex.specs.declared.next_byte.NextByte.{NextByte}
use Rattle.lbnf_regex.specs.Steps.{Expects, HasFewPositions, LeadsTo, Steps}

-- the list has just the numbers that are so
abbrev pub HaveJust : (ℕ → Type 0) → List ℕ → Type 0
HaveJust Is positions = (position : ℕ) → Contains positions position ↔ Is position

-- just the numbers that are so, in rising order
pub record IsSetThat (Is : ℕ → Type 0) (set : List ℕ) : Type 0 where
  pub rising : IsRising set
  pub are : HaveJust Is set

-- the positions of the text
abbrev pub IsSetOf : ByteExpression → List ℕ → List ℕ → Type 0
IsSetOf x bytes set = IsSetThat (IsPositionOf x bytes) set

-- the byte leads from the state to the position; the start is the empty list
abbrev pub StepsFrom : ByteExpression → List ℕ → ℕ → ℕ → Type 0
StepsFrom x state byte position = Steps x 0 (state ≡ []) (Contains state) byte position

-- the set that follows the state by the byte; the start is the empty list
abbrev pub IsNext : ByteExpression → List ℕ → ℕ → List ℕ → Type 0
IsNext x state byte set = IsSetThat (StepsFrom x state byte) set

-- each way in which the expression expects a byte in the state
abbrev pub AreExpected : ByteExpression → List ℕ → List NextByte → Type 0
AreExpected x state expected =
    (next : NextByte) → Contains expected next ↔ Expects x 0 (state ≡ []) (Contains state) next

-- each way has positions of 32 bits alone
abbrev pub HaveFewPositions : List NextByte → Type 0
HaveFewPositions expected = (next : NextByte) → Contains expected next → HasFewPositions next

-- read in one of these ways, the byte leads to the position
abbrev pub LeadsFrom : List NextByte → ℕ → ℕ → Type 0
LeadsFrom expected byte position =
    (next : NextByte) × Contains expected next × LeadsTo next byte position

-- the lists of the bytes, one for each, have just the positions that are so of the byte
abbrev pub AreTargets : (ℕ → ℕ → Type 0) → List (List ℕ) → Type 0
AreTargets Leads targets =
    (byte : ℕ) → byte < 256 → HaveJust (Leads byte) (slice_index_or targets byte [])

-- the lists of the bytes have what they had, and the positions that are so of the byte
abbrev pub AddsTargets : (ℕ → ℕ → Type 0) → List (List ℕ) → List (List ℕ) → Type 0
AddsTargets Leads old new =
    (byte : ℕ) → byte < 256
    → Adds (Leads byte) (slice_index_or old byte []) (slice_index_or new byte [])
