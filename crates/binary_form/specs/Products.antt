-- The product of two cells, by suffixes and their closures. Serves the proofs alone.
use Rattle.std.specs.Prelude.{◌≡◌, ℕ, ◌+◌, ◌<◌, ◌≤◌, List, [], Option, Some}
use Rattle.std.specs.Prelude.{MatchOption, slice_get, slice_index_or, Contains}

-- one of the givers gives the number
abbrev pub OneGives : (ℕ → ℕ → Type 0) → List ℕ → ℕ → Type 0
OneGives Gives givers n = (giver : ℕ) × Contains givers giver × Gives giver n

-- one of the givers below the limit gives the number
abbrev pub OneGivesBelow : (ℕ → ℕ → Type 0) → List ℕ → ℕ → ℕ → Type 0
OneGivesBelow Gives givers limit n =
    (giver : ℕ) × (giver < limit) × Contains givers giver × Gives giver n

-- the suffix goes on with a symbol of the right cell: the one behind its item has the next number
abbrev pub HasNextItem : List ℕ → ℕ → Type 0
HasNextItem right suffix = Contains right (suffix + 1)

-- the cell at this place has the number
abbrev pub IsInCellAt : {C : Type 0} → (C → List ℕ) → List C → ℕ → ℕ → Type 0
IsInCellAt {C = C} symbols cells at n =
    (cell : C) × (slice_get cells at ≡ Some cell) × Contains (symbols cell) n

-- the suffix goes on with a symbol of the right cell, and its closure has the number
abbrev pub SuffixGives : {C : Type 0} → (C → List ℕ) → List C → List ℕ → ℕ → ℕ → Type 0
SuffixGives symbols cells right suffix n =
    HasNextItem right suffix × IsInCellAt symbols cells suffix n

-- a suffix that begins with the item goes on with a symbol of the right cell, and its closure has
-- the number
abbrev pub ItemGives : {C : Type 0} → (C → List ℕ) → List C → List (List ℕ)
    → List ℕ → ℕ → ℕ → Type 0
ItemGives symbols cells links right item n =
    OneGives (SuffixGives symbols cells right) (slice_index_or links item []) n

-- a suffix that begins with the item goes on with a symbol of the right cell
abbrev pub IsItemMet : List (List ℕ) → List ℕ → ℕ → Type 0
IsItemMet links right item =
    (suffix : ℕ) × Contains (slice_index_or links item []) suffix × HasNextItem right suffix

-- each cell has numbers below the count alone
abbrev pub AreBelow : {C : Type 0} → (C → List ℕ) → ℕ → List C → Type 0
AreBelow {C = C} symbols count cells =
    (at n : ℕ) (cell : C) → slice_get cells at ≡ Some cell → Contains (symbols cell) n → n < count

-- the suffixes are numbers below the count, and so are those of the suffixes behind their items
abbrev pub GoOnBelow : ℕ → List ℕ → Type 0
GoOnBelow count suffixes = (suffix : ℕ) → Contains suffixes suffix → suffix + 1 < count

-- all links lead to such suffixes
abbrev pub LinksGoOnBelow : ℕ → List (List ℕ) → Type 0
LinksGoOnBelow count links = (item : ℕ) → GoOnBelow count (slice_index_or links item [])

-- the next number from one on is the least of the list that is not below it, and it is below the
-- count; None where there is none
abbrev pub IsNextBelow : ℕ → List ℕ → ℕ → Option ℕ → Type 0
IsNextBelow count xs from next = MatchOption next
    ((s : ℕ) → Contains xs s → from ≤ s → s < count → ⊥)
    (λ n. Contains xs n × (n < count) × (from ≤ n) × ((s : ℕ) → Contains xs s → from ≤ s → n ≤ s))
