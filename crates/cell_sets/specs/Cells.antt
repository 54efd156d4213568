-- What a caller sees of a cell: its symbols as a list of numbers in rising order.
use Rattle.std.specs.Prelude.{◌≡◌, ℕ, ◌<◌, ◌≤◌, ◌⊎◌, ◌↔◌, List, length, slice_index}
use Rattle.std.specs.Prelude.{Option, MatchOption}
use Rattle.std.specs.List.{Contains}

-- each number of the list is below those behind it
abbrev pub IsRising : List ℕ → Type 0
IsRising xs = (i j : ℕ) → i < j → j < length xs → slice_index xs i < slice_index xs j

-- the new list has what the old one has, and what is given
abbrev pub Adds : (ℕ → Type 0) → List ℕ → List ℕ → Type 0
Adds IsGiven old new = (s : ℕ) → Contains new s ↔ (Contains old s ⊎ IsGiven s)

-- what is there after the symbol is added is what was there, and the symbol
abbrev pub AddsSymbol : List ℕ → List ℕ → ℕ → Type 0
AddsSymbol old new symbol = Adds (λ s. s ≡ symbol) old new

-- the union of two lists has what either of them has
abbrev pub IsUnion : List ℕ → List ℕ → List ℕ → Type 0
IsUnion left right both = Adds (Contains right) left both

-- some number is in both lists
abbrev pub Meet : List ℕ → List ℕ → Type 0
Meet left right = (s : ℕ) × Contains left s × Contains right s

-- the third list has what both of the others have
abbrev pub IsCommon : List ℕ → List ℕ → List ℕ → Type 0
IsCommon left right common = (s : ℕ) → Contains common s ↔ (Contains left s × Contains right s)

-- two lists have the same members
abbrev pub HaveSame : List ℕ → List ℕ → Type 0
HaveSame left right = (s : ℕ) → Contains left s ↔ Contains right s

-- the next member from a symbol on is the least that is not below it, and None where all are below
abbrev pub IsNextFrom : List ℕ → ℕ → Option ℕ → Type 0
IsNextFrom xs symbol next = MatchOption next
    ((s : ℕ) → Contains xs s → s < symbol)
    (λ n. Contains xs n × (symbol ≤ n) × ((s : ℕ) → Contains xs s → symbol ≤ s → n ≤ s))

-- two lists in rising order with the same members are the same list
abbrev pub RisingListsAreSets : Type 0
RisingListsAreSets =
    (xs ys : List ℕ) → IsRising xs → IsRising ys
    → HaveSame xs ys → xs ≡ ys
