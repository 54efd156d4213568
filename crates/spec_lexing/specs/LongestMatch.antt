-- Longest match, over any list of kinds and any relation of what each of them matches.
use Rattle.std.specs.Prelude.{◌≡◌, ℕ, ◌<◌, ◌≤◌, List, length, Some, slice_get, slice_range}

module _ {K : Type 0} (Matches : K → List ℕ → Type 0) (kinds : List K) (text : List ℕ) where
  -- the kind that stands at this place in the order matches the bytes from start up to end
  abbrev pub MatchesAt : ℕ → ℕ → ℕ → Type 0
  MatchesAt place start end =
      (kind : K) × (slice_get kinds place ≡ Some kind)
      × Matches kind (slice_range text start end)

  -- the bytes from start up to end are the longest match at start, and the kind is the least that
  -- matches them
  pub record IsLongestMatch (place start end : ℕ) : Type 0 where
    pub some : start < end
    pub within : end ≤ length text
    pub matches : MatchesAt place start end
    pub longest : (other later : ℕ) → end < later → later ≤ length text
        → MatchesAt other start later → ⊥
    pub least : (other : ℕ) → other < place → MatchesAt other start end → ⊥

  -- no kind matches one byte or more at start
  abbrev pub IsUnmatched : ℕ → Type 0
  IsUnmatched start =
      (place end : ℕ) → start < end → end ≤ length text → MatchesAt place start end → ⊥
