-- Serves the proofs alone. The search that flags what a number reaches.
use Rattle.std.specs.Prelude.{◌≡◌, ℕ, suc, ◌*◌, ◌+◌, ◌≤◌, ◌↔◌, ◌⊎◌, List, [], ◌∷◌, ◌++◌, Bool, true, false}
use Rattle.std.specs.Prelude.{length, slice_index_or, slice_set, Contains}
use Rattle.number_graph.specs.Graphs.{HasLink, IsReachedFromAny, AreFlagsFromAny, IsSet}

-- how many flags are clear
abbrev pub clear_count : List Bool → ℕ
clear_count [] = 0
clear_count (true ∷ flags) = clear_count flags
clear_count (false ∷ flags) = suc (clear_count flags)

-- how much a search has left to do: two steps for each clear flag, one for each number that waits
abbrev pub work_left : List Bool → List ℕ → ℕ
work_left flags waiting = 2 * clear_count flags + length waiting

-- the number had its flag and nothing is changed, or it gets its flag and stands behind the others
abbrev pub FlagsOne : ℕ → List Bool → List Bool → List ℕ → List ℕ → Type 0
FlagsOne target flags new order longer =
    (IsSet flags target × (new ≡ flags) × (longer ≡ order))
    ⊎ ((slice_index_or flags target false ≡ false) × (new ≡ slice_set flags target true)
    × (longer ≡ order ++ target ∷ []))

-- these numbers have their flags, and those that had none wait
pub record SetsFlags (targets : List ℕ) (old new : List Bool) (old_waiting waiting : List ℕ)
    : Type 0 where
  pub count : length new ≡ length old
  pub kept : (n : ℕ) → IsSet old n → IsSet new n
  pub set : (n : ℕ) → Contains targets n → IsSet new n
  pub sound : (n : ℕ) → IsSet new n → IsSet old n ⊎ (Contains targets n × Contains waiting n)
  pub waits : (n : ℕ) → Contains old_waiting n → Contains waiting n
  pub all_set : (n : ℕ) → Contains waiting n → Contains old_waiting n ⊎ Contains targets n
  pub less : work_left new waiting ≤ work_left old old_waiting

-- a search is under way: what has a flag is reached, what waits has one, and what has one and
-- does not wait is linked to numbers that have one
pub record IsSearch (links : List (List ℕ)) (starts : List ℕ) (flags : List Bool) (waiting : List ℕ)
    : Type 0 where
  pub count : length flags ≡ length links
  pub begun : (n : ℕ) → Contains starts n → IsSet flags n
  pub sound : (n : ℕ) → IsSet flags n → IsReachedFromAny links starts n
  pub all_set : (n : ℕ) → Contains waiting n → IsSet flags n
  pub closed : (m : ℕ) → IsSet flags m
      → Contains waiting m ⊎ ((n : ℕ) → HasLink links m n → IsSet flags n)

-- a search is under way in which these numbers were looked at: those that have a flag and do not
-- wait
pub record HasLookedAt (links : List (List ℕ)) (starts : List ℕ) (flags : List Bool)
    (waiting seen : List ℕ) : Type 0 where
  pub search : IsSearch links starts flags waiting
  pub seen_set : (n : ℕ) → Contains seen n → IsSet flags n
  pub rest_waits : (n : ℕ) → IsSet flags n → Contains waiting n ⊎ Contains seen n

-- a search has ended: flags and numbers alike tell what is reached
pub record HasFound (links : List (List ℕ)) (starts : List ℕ) (flags : List Bool)
    (seen : List ℕ) : Type 0 where
  pub flags_are : AreFlagsFromAny links starts flags
  pub seen_are : (n : ℕ) → Contains seen n ↔ IsReachedFromAny links starts n
