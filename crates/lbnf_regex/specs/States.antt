-- Serves the proofs alone. States as sets of positions, and the rows of an automaton.
use Rattle.std.specs.Prelude.{◌≡◌, ◌≢◌, ℕ, ◌<◌, ◌≤◌, ◌⊎◌, List, [], ◌∷◌, ◌++◌, length, Option, Some, None}
use Rattle.std.specs.Prelude.{◌+◌, zero, suc, cond, nat_eq, Contains, MatchOption, slice_index_or}
use Rattle.spec_automata.specs.ByteExpressions.{ByteExpression}
use Rattle.spec_automata.specs.Positions.{position_count}
use Rattle.spec_automata.specs.States.{AreBytes}
use Rattle.lbnf_regex.specs.Steps.{HasLast}
use Rattle.lbnf_regex.specs.Sets.{IsSetOf, IsNext}

-- the state is the set of some text that is not empty, and has positions
pub record IsReached (x : ByteExpression) (state : List ℕ) : Type 0 where
  pub text : List ℕ
  pub text_bytes : AreBytes text
  pub text_some : text ≢ []
  pub some : state ≢ []
  pub is : IsSetOf x text state

-- the state of this number
abbrev pub state_at : List (List ℕ) → ℕ → List ℕ
state_at states i = slice_index_or states i []

-- the start, and behind it different states that texts lead to
pub record AreStates (x : ByteExpression) (states : List (List ℕ)) : Type 0 where
  pub some : 0 < length states
  pub start : state_at states 0 ≡ []
  pub reached : (i : ℕ) → 0 < i → i < length states → IsReached x (state_at states i)
  pub differ : (i j : ℕ) → i < j → j < length states → state_at states i ≡ state_at states j → ⊥

-- where the byte leads to from the state: to none, or to one of these by its number
abbrev pub IsStateEntry : ByteExpression → List (List ℕ) → List ℕ → ℕ → Option ℕ → Type 0
IsStateEntry x states state byte None = IsNext x state byte []
IsStateEntry x states state byte (Some j) =
    (0 < j) × (j < length states) × IsNext x state byte (state_at states j)

-- the entries of the state for the first bytes, so many
pub record IsStateRow (x : ByteExpression) (states : List (List ℕ)) (state : List ℕ) (count : ℕ)
    (row : List (Option ℕ)) : Type 0 where
  pub size : length row ≡ count
  pub entries : (byte : ℕ) → byte < count
      → IsStateEntry x states state byte (slice_index_or row byte None)

-- the rows of the first states, so many
pub record AreRows (x : ByteExpression) (states : List (List ℕ)) (count : ℕ)
    (rows : List (List (Option ℕ))) : Type 0 where
  pub size : length rows ≡ count
  pub rows_are : (i : ℕ) → i < count
      → IsStateRow x states (state_at states i) 256 (slice_index_or rows i [])

-- the rows of all states, which are at most so many
pub record IsTable (x : ByteExpression) (most : ℕ) (states : List (List ℕ))
    (rows : List (List (Option ℕ))) : Type 0 where
  pub are_states : AreStates x states
  pub are_rows : AreRows x states (length states) rows
  pub few : length states ≤ most

-- states were added behind the others
pub record AddsStates (old new : List (List ℕ)) : Type 0 where
  pub more : List (List ℕ)
  pub is : new ≡ old ++ more

-- the set is none of the states
abbrev pub IsNoneOf : List (List ℕ) → List ℕ → Type 0
IsNoneOf states set = (i : ℕ) → i < length states → state_at states i ≡ set → ⊥

-- the set has the number: it is one of the states, or it was none and was added behind them
pub record GetsNumber (old new : List (List ℕ)) (set : List ℕ) (number : ℕ) : Type 0 where
  pub within : number < length new
  pub is : state_at new number ≡ set
  pub kept : (new ≡ old) ⊎ ((new ≡ old ++ set ∷ []) × IsNoneOf old set)

-- there is no room for the set, which is none of the states
abbrev pub HasNoRoom : List (List ℕ) → List ℕ → ℕ → Type 0
HasNoRoom states set most = IsNoneOf states set × (length states ≡ most)

-- the entry of the set: none where it is empty, or else its number
abbrev pub GetsEntry : List ℕ → List (List ℕ) → List (List ℕ) → Option ℕ → Type 0
GetsEntry set old new None = (new ≡ old) × (set ≡ [])
GetsEntry set old new (Some number) = (set ≢ []) × GetsNumber old new set number

-- an entry by its number, which is 0 where no state follows
abbrev pub entry_of : ℕ → Option ℕ
entry_of number = cond (nat_eq number 0) None (Some number)

-- a match of the expression at this place of the list can end at a marked position
abbrev pub EndsInPlace : List ByteExpression → ℕ → (ℕ → Type 0) → ℕ → Type 0
EndsInPlace [] first Marked place = ⊥
EndsInPlace (x ∷ xs) first Marked zero = HasLast x first Marked
EndsInPlace (x ∷ xs) first Marked (suc place) =
    EndsInPlace xs (first + position_count x) Marked place

-- the least place where a match can end at a marked position, and None where none can
abbrev pub IsLeastEnding : List ByteExpression → (ℕ → Type 0) → Option ℕ → Type 0
IsLeastEnding xs Marked place =
    MatchOption place ((other : ℕ) → EndsInPlace xs 0 Marked other → ⊥)
    (λ least. EndsInPlace xs 0 Marked least
    × ((other : ℕ) → other < least → EndsInPlace xs 0 Marked other → ⊥))

-- the places of the states, so many
pub record ArePlaces (xs : List ByteExpression) (states : List (List ℕ)) (places : List (Option ℕ))
    : Type 0 where
  pub size : length places ≡ length states
  pub least : (i : ℕ) → i < length states
      → IsLeastEnding xs (Contains (state_at states i)) (slice_index_or places i None)
