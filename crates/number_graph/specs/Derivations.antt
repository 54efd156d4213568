-- Serves the proofs alone. The search for what follows from implications. Of each implication the
-- premises are a list, and the conclusion is a number, at the same place in the list of conclusions.
use Rattle.std.specs.Prelude.{◌≡◌, ℕ, ◌+◌, ◌<◌, ◌≤◌, ◌⊎◌, List, [], Bool, false}
use Rattle.std.specs.Prelude.{length, take, slice_index_or, replicate, Contains}
use Rattle.number_graph.specs.Graphs.{HasLink, IsSet}
use Rattle.number_graph.specs.Flags.{clear_count}
use Rattle.number_graph.specs.declared.derivation.Search.{Search}

-- each implication has a list of premises, and all numbers are below so many
pub record AreWithin (total : ℕ) (premises : List (List ℕ)) (conclusions : List ℕ) : Type 0 where
  pub lists : length conclusions ≤ length premises
  pub premises_below : (i p : ℕ) → HasLink premises i p → p < total
  pub conclusions_below : (n : ℕ) → Contains conclusions n → n < total

-- a search among so many numbers and implications that knows nothing yet
pub record IsBlank (numbers implications : ℕ) (search : Search) : Type 0 where
  pub flags : search.flags.items ≡ replicate numbers false
  pub order : search.order.items ≡ []
  pub places : search.places.items ≡ replicate implications 0
  pub waiting : search.waiting.items ≡ replicate numbers []

module _ (premises : List (List ℕ)) (conclusions : List ℕ) where
  -- the number is the conclusion of an implication whose premises are all among these
  abbrev pub IsFounded : List ℕ → ℕ → Type 0
  IsFounded known n =
      (i : ℕ) × (i < length conclusions) × (slice_index_or conclusions i 0 ≡ n)
      × ((p : ℕ) → HasLink premises i p → Contains known p)

  -- each number of the order is founded on those before it
  abbrev pub IsDerivationOrder : List ℕ → Type 0
  IsDerivationOrder order =
      (k : ℕ) → k < length order → IsFounded (take k order) (slice_index_or order k 0)

  -- the implication's conclusion is found, or a premise of it is not
  abbrev pub IsDone : List ℕ → ℕ → Type 0
  IsDone order i =
      Contains order (slice_index_or conclusions i 0)
      ⊎ ((p : ℕ) × HasLink premises i p × (Contains order p → ⊥))

  -- the implication's conclusion is found, or it waits for a premise that was not looked at
  abbrev pub IsSettled : ℕ → List ℕ → List (List ℕ) → ℕ → Type 0
  IsSettled next order waiting i =
      Contains order (slice_index_or conclusions i 0)
      ⊎ ((p : ℕ) × HasLink premises i p × Contains (slice_index_or waiting p []) i
      × (Contains (take next order) p → ⊥))

  -- a search is under way: those with a flag are the numbers of the order, and each implication's
  -- premises before its place have their flags
  pub record IsDeriving (flags : List Bool) (order places : List ℕ) (waiting : List (List ℕ))
      : Type 0 where
    pub waiting_count : length waiting ≡ length flags
    pub place_count : length places ≡ length conclusions
    pub known : (n : ℕ) → IsSet flags n → Contains order n
    pub flagged : (n : ℕ) → Contains order n → IsSet flags n
    pub few : length order + clear_count flags ≤ length flags
    pub founded : IsDerivationOrder order
    pub passed : (i k : ℕ) → k < slice_index_or places i 0
        → k < length (slice_index_or premises i [])
        → IsSet flags (slice_index_or (slice_index_or premises i []) k 0)
    pub waits : (n i : ℕ) → Contains (slice_index_or waiting n []) i → i < length conclusions

  -- a search is under way, of which only the flags, the order, the places and what waits count
  abbrev pub IsUnderWay : Search → Type 0
  IsUnderWay s = IsDeriving s.flags.items s.order.items s.places.items s.waiting.items

  -- these implications are settled, and those that were are settled still
  pub record Settles (Given : ℕ → Type 0) (flags : List Bool) (order : List ℕ)
      (waiting : List (List ℕ)) (new_flags : List Bool) (new_order new_places : List ℕ)
      (new_waiting : List (List ℕ)) : Type 0 where
    pub under_way : IsDeriving new_flags new_order new_places new_waiting
    pub same_count : length new_flags ≡ length flags
    pub longer : length order ≤ length new_order
    pub here : (next i : ℕ) → next ≤ length order → Given i
        → IsSettled next new_order new_waiting i
    pub kept : (next i : ℕ) → next ≤ length order → IsSettled next order waiting i
        → IsSettled next new_order new_waiting i

  -- these implications are settled from the one search to the other
  abbrev pub SettlesEach : (ℕ → Type 0) → Search → Search → Type 0
  SettlesEach Given old new =
      Settles Given old.flags.items old.order.items old.waiting.items
      new.flags.items new.order.items new.places.items new.waiting.items

  -- the first so many numbers of the order were looked at, and each implication is settled
  pub record IsSettledUpTo (total next : ℕ) (search : Search) : Type 0 where
    pub under_way : IsUnderWay search
    pub count : length search.flags.items ≡ total
    pub within : next ≤ length search.order.items
    pub all_settled : (i : ℕ) → i < length conclusions
        → IsSettled next search.order.items search.waiting.items i

  -- the search has found all that follows, in an order in which each is founded on those before it
  pub record IsFound (total : ℕ) (search : Search) : Type 0 where
    pub under_way : IsUnderWay search
    pub count : length search.flags.items ≡ total
    pub all_done : (i : ℕ) → i < length conclusions → IsDone search.order.items i
