-- Serves the proofs alone. Heights that are told one after another.
use Rattle.std.specs.Prelude.{◌≡◌, ℕ, ◌+◌, ◌<◌, ◌≤◌, ◌⊎◌, List, Option, None, Some}
use Rattle.std.specs.Prelude.{length, take, slice_index_or, Contains, []}
use Rattle.number_graph.specs.Chains.{IsHeight}

-- at each place of the list stands the number of the place
pub record AreNumbersBelow (total : ℕ) (numbers : List ℕ) : Type 0 where
  pub count : length numbers ≡ total
  pub each : (n : ℕ) → n < total → slice_index_or numbers n 0 ≡ n

-- the height of a number is told
abbrev pub IsTold : List (Option ℕ) → ℕ → ℕ → Type 0
IsTold heights n height = slice_index_or heights n None ≡ Some height

-- one more than the greatest of the heights that are told of the targets, or 0 without any
pub record IsHeightAbove (targets : List ℕ) (heights : List (Option ℕ)) (height : ℕ) : Type 0 where
  pub found : (height ≡ 0)
      ⊎ ((t : ℕ) × (h : ℕ) × Contains targets t × IsTold heights t h × (height ≡ h + 1))
  pub above : (t h : ℕ) → Contains targets t → IsTold heights t h → h < height

-- the height above one target more is the greater one of the height above the others and one more
-- than the target's height, where this is told
pub record IsHeightWith (height : ℕ) (target : Option ℕ) (longer : ℕ) : Type 0 where
  pub from_others : height ≤ longer
  pub above : (h : ℕ) → target ≡ Some h → h < longer
  pub found : (longer ≡ height) ⊎ ((h : ℕ) × (target ≡ Some h) × (longer ≡ h + 1))

-- the heights of the first so many numbers of the order are told, and no others
pub record AreHeightsUpTo (links : List (List ℕ)) (order : List ℕ) (k : ℕ)
    (heights : List (Option ℕ)) : Type 0 where
  pub count : length heights ≡ length links
  pub told : (n : ℕ) → Contains (take k order) n → (h : ℕ) × IsTold heights n h
  pub exact : (n h : ℕ) → IsTold heights n h
      → IsHeight links n h × (h < k) × Contains (take k order) n

-- each number of the order is linked to numbers before it alone
abbrev pub IsLinkOrder : List (List ℕ) → List ℕ → Type 0
IsLinkOrder links order =
    (k : ℕ) → k < length order
    → (n : ℕ) → Contains (slice_index_or links (slice_index_or order k 0) []) n
    → Contains (take k order) n
