-- Serves the proofs alone. Steps from the positions of a text to those of the text with one byte
-- more, through the expression and not through lists of what follows each position.
use Rattle.std.specs.Prelude.{◌≡◌, ℕ, ◌+◌, ◌<◌, ◌≤◌, ◌^◌, ◌⊎◌, ◌↔◌, List, [], ◌∷◌, ◌++◌, length, take, Bool}
use Rattle.std.specs.Prelude.{true, false, ◌&&◌, ◌||◌, nat_eq, slice_index_or, Contains}
use Rattle.spec_automata.specs.ByteExpressions.{ByteExpression, empty, nothing, byte_in, in_turn}
use Rattle.spec_automata.specs.ByteExpressions.{either, star, plus, until}
use Rattle.spec_automata.specs.Positions.{IsBorder, position_count}
use Rattle.lbnf_regex.specs.declared.next_byte.NextByte.{NextByte}
use Rattle.lbnf_regex.specs.declared.next_byte.NextByte.TheVariants.{InSet, InComment}

-- the expression matches the empty text
abbrev pub is_nullable : ByteExpression → Bool
is_nullable empty = true
is_nullable nothing = false
is_nullable (byte_in set) = false
is_nullable (in_turn x y) = is_nullable x && is_nullable y
is_nullable (either x y) = is_nullable x || is_nullable y
is_nullable (star x) = true
is_nullable (plus x) = is_nullable x
is_nullable (until closing) = nat_eq (length closing) 0

-- a match of the expression, whose positions are numbered from first on, can end at the position
abbrev pub IsLast : ByteExpression → ℕ → ℕ → Type 0
IsLast empty first position = ⊥
IsLast nothing first position = ⊥
IsLast (byte_in set) first position = position ≡ first
IsLast (in_turn x y) first position =
    IsLast y (first + position_count x) position
    ⊎ ((is_nullable y ≡ true) × IsLast x first position)
IsLast (either x y) first position =
    IsLast x first position ⊎ IsLast y (first + position_count x) position
IsLast (star x) first position = IsLast x first position
IsLast (plus x) first position = IsLast x first position
IsLast (until closing) first position = position ≡ first + length closing

-- a match can end at a marked position
abbrev pub HasLast : ByteExpression → ℕ → (ℕ → Type 0) → Type 0
HasLast x first Marked = (position : ℕ) × Marked position × IsLast x first position

-- a position from the first on, one of so many, is marked
abbrev pub HasWithin : ℕ → ℕ → (ℕ → Type 0) → Type 0
HasWithin first count Marked =
    (position : ℕ) × Marked position × (first ≤ position) × (position < first + count)

-- what stands behind the expression is entered
abbrev pub EntersBehind : ByteExpression → ℕ → Type 0 → (ℕ → Type 0) → Type 0
EntersBehind x first Entered Marked =
    ((is_nullable x ≡ true) × Entered) ⊎ HasLast x first Marked

-- a repeated expression is entered, from before or again
abbrev pub EntersAgain : ByteExpression → ℕ → Type 0 → (ℕ → Type 0) → Type 0
EntersAgain x first Entered Marked = Entered ⊎ HasLast x first Marked

-- the next byte may be read in this way, where the expression is entered or has marked positions
abbrev pub Expects : ByteExpression → ℕ → Type 0 → (ℕ → Type 0) → NextByte → Type 0
Expects empty first Entered Marked next = ⊥
Expects nothing first Entered Marked next = ⊥
Expects (byte_in set) first Entered Marked next = Entered × (next ≡ InSet first set)
Expects (in_turn x y) first Entered Marked next =
    Expects x first Entered Marked next
    ⊎ Expects y (first + position_count x) (EntersBehind x first Entered Marked) Marked next
Expects (either x y) first Entered Marked next =
    Expects x first Entered Marked next
    ⊎ Expects y (first + position_count x) Entered Marked next
Expects (star x) first Entered Marked next =
    Expects x first (EntersAgain x first Entered Marked) Marked next
Expects (plus x) first Entered Marked next =
    Expects x first (EntersAgain x first Entered Marked) Marked next
Expects (until closing) first Entered Marked next =
    (Entered × (0 < length closing) × (next ≡ InComment first closing 0))
    ⊎ ((size : ℕ) × Marked (first + size) × (size < length closing)
    × (next ≡ InComment first closing size))

-- read in this way, the byte leads to the position
abbrev pub LeadsTo : NextByte → ℕ → ℕ → Type 0
LeadsTo (InSet own set) byte position = Contains set byte × (position ≡ own)
LeadsTo (InComment first closing size) byte position =
    (longer : ℕ) × IsBorder closing (take size closing ++ byte ∷ []) longer
    × (position ≡ first + longer)

-- the byte leads to the position, where the expression is entered or has marked positions
abbrev pub Steps : ByteExpression → ℕ → Type 0 → (ℕ → Type 0) → ℕ → ℕ → Type 0
Steps x first Entered Marked byte position =
    (next : NextByte) × Expects x first Entered Marked next × LeadsTo next byte position

-- the new list has what the old one has, and each way in which the expression expects a byte
abbrev pub AddsExpected : ByteExpression → ℕ → Type 0 → (ℕ → Type 0) → List NextByte → List NextByte
    → Type 0
AddsExpected x first Entered Marked old new =
    (next : NextByte) → Contains new next ↔ (Contains old next ⊎ Expects x first Entered Marked next)

-- the position has 32 bits, and inside a comment less than all of the closing text has been read
abbrev pub HasFewPositions : NextByte → Type 0
HasFewPositions (InSet position set) = position < 2 ^ 32
HasFewPositions (InComment first closing size) = (size < length closing) × (first + length closing < 2 ^ 32)

-- the new list has what the old one has, and this way where something holds
abbrev pub AddsIf : Type 0 → NextByte → List NextByte → List NextByte → Type 0
AddsIf Holds given old new =
    (next : NextByte) → Contains new next ↔ (Contains old next ⊎ (Holds × (next ≡ given)))

-- the new list has what the old one has, and the byte behind each of these that is marked
abbrev pub AddsBehind : ℕ → List ℕ → (ℕ → Type 0) → List NextByte → List NextByte → Type 0
AddsBehind first bytes Marked old new =
    (next : NextByte) → Contains new next ↔ (Contains old next
    ⊎ ((place : ℕ) × Marked (first + place) × (place + 1 < length bytes)
    × (next ≡ InSet (first + place + 1) (slice_index_or bytes (place + 1) 0 ∷ []))))

-- the new list has what the old one has, and a way inside a comment for each mark there
abbrev pub AddsInside : ℕ → List ℕ → (ℕ → Type 0) → List NextByte → List NextByte → Type 0
AddsInside first closing Marked old new =
    (next : NextByte) → Contains new next ↔ (Contains old next
    ⊎ ((size : ℕ) × Marked (first + size) × (size < length closing)
    × (next ≡ InComment first closing size)))
