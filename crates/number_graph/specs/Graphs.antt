-- Numbers linked to numbers, and what reaches what. Links are a list for each number, of those that
-- it is linked to.
use Rattle.std.specs.Prelude.{◌≡◌, ℕ, ◌+◌, ◌<◌, ◌↔◌, ◌⊎◌, List, [], Bool, false, IsTrue, length}
use Rattle.std.specs.Prelude.{slice_index_or, replicate, Contains}
use Rattle.std.specs.List.Sorted.{IsNonDecreasing}
use Rattle.cell_sets.specs.Cells.{IsRising}

-- the first number is linked to the second
abbrev pub HasLink : List (List ℕ) → ℕ → ℕ → Type 0
HasLink links m n = Contains (slice_index_or links m []) n

-- the numbers that a number is linked to are in rising order, so that each of them is there once
abbrev pub AreRising : List (List ℕ) → Type 0
AreRising links = (m : ℕ) → IsRising (slice_index_or links m [])

-- the new links are the old ones and these
pub record AddsLinks (Added : ℕ → ℕ → Type 0) (old new : List (List ℕ)) : Type 0 where
  pub count : length new ≡ length old
  pub links : (m n : ℕ) → HasLink new m n ↔ (HasLink old m n ⊎ Added m n)

-- the new links are the old ones and one more
abbrev pub AddsLink : List (List ℕ) → List (List ℕ) → ℕ → ℕ → Type 0
AddsLink old new from to = AddsLinks (λ m n. (m ≡ from) × (n ≡ to)) old new

-- there is one number more, and it is linked to these; the other links are as they were
pub record PushesLinks (old new : List (List ℕ)) (targets : List ℕ) : Type 0 where
  pub count : length new ≡ length old + 1
  pub links : (m n : ℕ)
      → HasLink new m n ↔ (HasLink old m n ⊎ ((m ≡ length old) × Contains targets n))

-- there are so many numbers, and no links among them
abbrev pub AreNoLinks : ℕ → List (List ℕ) → Type 0
AreNoLinks count links = links ≡ replicate count []

-- each number is linked to numbers below the count alone
abbrev pub AreLinksWithin : List (List ℕ) → Type 0
AreLinksWithin links = (m n : ℕ) → HasLink links m n → n < length links

-- one thing reaches another by steps, or by none where it is the same
pub data ReachesBy {A : Type 0} (Step : A → A → Type 0) : A → A → Type 0 where
  stay : {a : A} → ReachesBy Step a a
  step : {a b c : A} → ReachesBy Step a b → Step b c → ReachesBy Step a c

-- the number has a flag, and it is set
abbrev pub IsSet : List Bool → ℕ → Type 0
IsSet flags n = IsTrue (slice_index_or flags n false)

-- so many numbers have a flag each, which is set exactly where this holds of the number
pub record AreFlagsOf (total : ℕ) (Holds : ℕ → Type 0) (flags : List Bool) : Type 0 where
  pub count : length flags ≡ total
  pub exact : (n : ℕ) → IsSet flags n ↔ Holds n

-- the list has the numbers that are reached by links, the least first
pub record AreReached (links : List (List ℕ)) (from : ℕ) (numbers : List ℕ) : Type 0 where
  pub exact : (n : ℕ) → Contains numbers n ↔ ReachesBy (HasLink links) from n
  pub sorted : IsNonDecreasing numbers

-- links lead to the number from one of these
abbrev pub IsReachedFromAny : List (List ℕ) → List ℕ → ℕ → Type 0
IsReachedFromAny links starts n =
    (m : ℕ) × Contains starts m × ReachesBy (HasLink links) m n

-- each number has a flag, which is set exactly where it is reached by links from one of these
abbrev pub AreFlagsFromAny : List (List ℕ) → List ℕ → List Bool → Type 0
AreFlagsFromAny links starts flags =
    AreFlagsOf (length links) (IsReachedFromAny links starts) flags

-- the number reaches itself by one link or more
abbrev pub IsOnCycle : List (List ℕ) → ℕ → Type 0
IsOnCycle links n = (m : ℕ) × HasLink links n m × ReachesBy (HasLink links) m n
