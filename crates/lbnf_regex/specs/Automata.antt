-- What a caller sees of an automaton: for each state and each byte the state that follows, if there
-- is one. The start is state 0.
use Rattle.std.specs.Prelude.{◌≡◌, ◌≢◌, ℕ, ◌<◌, ◌^◌, ◌↔◌, List, [], ◌∷◌, length, Option, Some}
use Rattle.std.specs.Prelude.{◌+◌, ◌-◌, cond, nat_eq, nat_le, None, MatchOption, slice_get, slice_index_or}
use Rattle.spec_automata.specs.ByteExpressions.{ByteExpression, MatchesBytes}
use Rattle.spec_automata.specs.Encoding.{one_of_these}
use Rattle.spec_automata.specs.Positions.{HasPosition}
use Rattle.spec_automata.specs.States.{AreBytes}
use Rattle.lbnf_regex.specs.declared.kind.Kind.{Kind}
use Rattle.lbnf_regex.specs.declared.kind.Kind.TheVariants.{White, Comment, Symbol}

-- an automaton: its rows, for each state the place of the least kind that it accepts, and how many
-- kinds are comments
pub record Machine : Type 0 where
  pub rows : List (List (Option ℕ))
  pub places : List (Option ℕ)
  pub comments : ℕ

-- the automaton of these rows and places, with so many comments
abbrev pub machine_of : List (List (Option ℕ)) → List (Option ℕ) → ℕ → Machine
machine_of rows places comments = record { rows = rows; places = places; comments = comments }

-- the kind at the place in the order of kinds: white space, so many comments, and the grammar's
abbrev pub kind_at : ℕ → ℕ → Kind
kind_at comments place =
    cond (nat_eq place 0) White
    (cond (nat_le place comments) Comment (Symbol (place - comments - 1)))

-- there is a start, states have numbers of 16 bits, and each has a place and a row of 256 entries,
-- which are states; the numbers of the grammar's kinds have 16 bits
abbrev pub IsWholeMachine : Machine → Type 0
IsWholeMachine a =
    (0 < length a.rows) × (length a.rows < 2 ^ 16) × (length a.places ≡ length a.rows)
    × ((i : ℕ) → i < length a.rows → length (slice_index_or a.rows i []) ≡ 256)
    × ((i byte j : ℕ) → i < length a.rows → byte < 256
    → slice_index_or (slice_index_or a.rows i []) byte None ≡ Some j → j < length a.rows)
    × ((i place : ℕ) → slice_index_or a.places i None ≡ Some place
    → place < a.comments + 1 + 2 ^ 16)

-- the state behind one byte; from no state there is none
abbrev pub state_behind : List (List (Option ℕ)) → Option ℕ → ℕ → Option ℕ
state_behind rows None byte = None
state_behind rows (Some state) byte = slice_index_or (slice_index_or rows state []) byte None

-- the state that the bytes lead to from this one, or none
abbrev pub walk : List (List (Option ℕ)) → Option ℕ → List ℕ → Option ℕ
walk rows state [] = state
walk rows state (byte ∷ bytes) = walk rows (state_behind rows state byte) bytes

-- the bytes lead from the start to no state exactly where no spelling begins with them
abbrev pub IsExact : ByteExpression → List (List (Option ℕ)) → Type 0
IsExact x rows =
    (bytes : List ℕ) → bytes ≢ [] → AreBytes bytes →
    (walk rows (Some 0) bytes ≡ None) ↔ (HasPosition x bytes → ⊥)

-- the expression at this place of the list matches the bytes
abbrev pub MatchesInPlace : List ByteExpression → List ℕ → ℕ → Type 0
MatchesInPlace xs bytes place =
    (x : ByteExpression) × (slice_get xs place ≡ Some x) × MatchesBytes x bytes

-- the least place whose expression matches the bytes, and None where none does
abbrev pub IsLeastMatching : List ByteExpression → List ℕ → Option ℕ → Type 0
IsLeastMatching xs bytes place =
    MatchOption place ((other : ℕ) → MatchesInPlace xs bytes other → ⊥)
    (λ least. MatchesInPlace xs bytes least
    × ((other : ℕ) → other < least → MatchesInPlace xs bytes other → ⊥))

-- where the bytes lead from the start to a state, the state's place is the least that matches them
abbrev pub AreLeastMatching : List ByteExpression → List (List (Option ℕ)) → List (Option ℕ) → Type 0
AreLeastMatching xs rows places =
    (bytes : List ℕ) (state : ℕ) → bytes ≢ [] → AreBytes bytes →
    walk rows (Some 0) bytes ≡ Some state →
    IsLeastMatching xs bytes (slice_index_or places state None)

-- the automaton recognises these expressions, the least first, of which so many behind the first are
-- comments
pub record RecognisesThese (xs : List ByteExpression) (comments : ℕ) (a : Machine) : Type 0 where
  pub whole : IsWholeMachine a
  pub exact : IsExact (one_of_these xs) a.rows
  pub least : AreLeastMatching xs a.rows a.places
  pub count : a.comments ≡ comments
