-- Serves the proofs alone. Which expression of a list each position is of, and what the expressions
-- of marked positions expect.
use Rattle.std.specs.Prelude.{◌≡◌, ℕ, ◌+◌, ◌⊎◌, ◌↔◌, List, [], ◌++◌, ◌∷◌, zero, suc, replicate}
use Rattle.std.specs.Prelude.{Contains, IsTrue, Option, Some, false, slice_get}
use Rattle.spec_automata.specs.ByteExpressions.{ByteExpression}
use Rattle.spec_automata.specs.Positions.{position_count}
use Rattle.lbnf_regex.specs.declared.next_byte.NextByte.{NextByte}
use Rattle.lbnf_regex.specs.declared.owner.Owner.{Owner}
use Rattle.lbnf_regex.specs.Steps.{Expects}

-- the place and the first position of an expression
abbrev pub owner_of : ℕ → ℕ → Owner
owner_of place first = record { place = place; first = first }

-- the owner of each position of the expressions, of which the first has this place and this first
-- position
abbrev pub owners_from : List ByteExpression → ℕ → ℕ → List Owner
owners_from [] place first = []
owners_from (x ∷ xs) place first =
    replicate (position_count x) (owner_of place first)
    ++ owners_from xs (place + 1) (first + position_count x)

-- the expression at this place of the list expects the next byte so, where each of the list is
-- entered or has marked positions
abbrev pub ExpectsInPlace : List ByteExpression → ℕ → Type 0 → (ℕ → Type 0) → ℕ → NextByte → Type 0
ExpectsInPlace [] first Entered Marked place next = ⊥
ExpectsInPlace (x ∷ xs) first Entered Marked zero next = Expects x first Entered Marked next
ExpectsInPlace (x ∷ xs) first Entered Marked (suc place) next =
    ExpectsInPlace xs (first + position_count x) Entered Marked place next

-- the expression that the position is of expects the next byte so, where none is entered
pub record ExpectsOwned (xs : List ByteExpression) (Marked : ℕ → Type 0) (position : ℕ)
    (next : NextByte) : Type 0 where
  pub owner : Owner
  pub is : slice_get (owners_from xs 0 0) position ≡ Some owner
  pub expects : ExpectsInPlace xs 0 (IsTrue false) Marked owner.place next

-- the new list has what the old one has, and what the expressions of these positions expect
abbrev pub AddsOwned : List ByteExpression → (ℕ → Type 0) → List ℕ → List NextByte → List NextByte
    → Type 0
AddsOwned xs Marked positions old new =
    (next : NextByte) → Contains new next ↔ (Contains old next
    ⊎ ((position : ℕ) × Contains positions position × ExpectsOwned xs Marked position next))

-- the new list has what the old one has, and what the expression of this position expects
abbrev pub AddsOwnedAt : List ByteExpression → (ℕ → Type 0) → ℕ → List NextByte → List NextByte → Type 0
AddsOwnedAt xs Marked position old new =
    (next : NextByte) → Contains new next ↔ (Contains old next ⊎ ExpectsOwned xs Marked position next)

-- the list has all that the expression in this place expects, where there is one
abbrev pub HasAllOf : List ByteExpression → (ℕ → Type 0) → Option ℕ → List NextByte → Type 0
HasAllOf xs Marked last expected =
    (place : ℕ) → last ≡ Some place → (next : NextByte)
    → ExpectsInPlace xs 0 (IsTrue false) Marked place next → Contains expected next
