-- Longest matches are unique, and a test of what each kind matches finds them.
use Rattle.std.proofs.Common.{inl, inr, ◌≡◌, ℕ, suc, zero, ◌+◌, ◌<◌, ◌≤◌, List, [], ◌∷◌, length, Option, Some, None, Bool, true, false, cond, slice_get, slice_range, MatchOption, refl, ap, arith}
use Rattle.std.specs.Option.{option_map}
use Rattle.std.specs.Bool.{Decides}
use Rattle.std.proofs.lemmas.Bool.{cases_lt}
use Rattle.std.proofs.lemmas.Bool.Decides.{not_from_Decides}
use Rattle.spec_lexing.specs.LongestMatch.{IsLongestMatch, IsUnmatched, MatchesAt}

module _ {K : Type 0} (MatchesKind : K → List ℕ → Type 0) (kinds : List K) (text : List ℕ) where
  -- the bytes from start up to end are the longest match at start, of the kind at this place in the order
  abbrev Longest : ℕ → ℕ → ℕ → Type 0
  Longest order start end = IsLongestMatch MatchesKind kinds text order start end

  -- of two longest matches at a place neither ends behind the other
  not_later : (start order end other later : ℕ) → Longest order start end → Longest other start later →
      end < later → ⊥
  not_later start order end other later here there after =
      here.longest other later after there.within there.matches

  -- two longest matches at a place end at one place
  pub one_end : (start order end other later : ℕ) → IsLongestMatch MatchesKind kinds text order start end →
      IsLongestMatch MatchesKind kinds text other start later → end ≡ later
  one_end start order end other later here there =
      let below : end < later → ⊥ = not_later start order end other later here there in
      let above : later < end → ⊥ = not_later start other later order end there here in
      grind (arith, below, above)

  -- of two longest matches with one end neither kind stands behind the other
  not_behind : (start order other end : ℕ) → Longest order start end → Longest other start end →
      order < other → ⊥
  not_behind start order other end here there before = there.least order before here.matches

  -- two longest matches at a place are of one kind
  pub one_order : (start order end other later : ℕ) →
      IsLongestMatch MatchesKind kinds text order start end →
      IsLongestMatch MatchesKind kinds text other start later → order ≡ other
  one_order start order end other later here there =
      let there_too : Longest other start end =
      rw (one_end start order end other later here there) there in
      let below : order < other → ⊥ = not_behind start order other end here there_too in
      let above : other < order → ⊥ = not_behind start other order end there_too here in
      grind (arith, below, above)

  -- where some match is the longest, something matches
  pub matched_place : (start order end : ℕ) → IsLongestMatch MatchesKind kinds text order start end →
      IsUnmatched MatchesKind kinds text start → ⊥
  matched_place start order end here none = none order end here.some here.within here.matches

-- a kind with its place in the order
pub record Ranked (K : Type 0) : Type 0 where
  pub order : ℕ
  pub kind : K

-- a match with its kind, as a search finds it
pub record Found (K : Type 0) : Type 0 where
  pub order : ℕ
  pub kind : K
  pub end : ℕ

module _ {K : Type 0} where
  -- the kind at the front of the order
  abbrev pub first_ranked : K → Ranked K
  first_ranked kind = record { order = 0; kind = kind }

  -- the kind stands one place further on in the order
  abbrev pub one_later : Ranked K → Ranked K
  one_later ranked = record { order = suc ranked.order; kind = ranked.kind }

  -- the kind, if there is one, matches up to end; else what is found of the shorter matches
  abbrev pub found_or : ℕ → Option (Ranked K) → Option (Found K) → Option (Found K)
  found_or end (Some ranked) shorter = Some (record { order = ranked.order; kind = ranked.kind; end = end })
  found_or end None shorter = shorter

module _ {K : Type 0} (matches : K → List ℕ → Bool) where
  -- the least of the kinds that pass the test at these bytes
  abbrev pub least_kind : List K → List ℕ → Option (Ranked K)
  least_kind [] bytes = None
  least_kind (kind ∷ kinds) bytes =
      cond (matches kind bytes) (Some (first_ranked kind)) (option_map one_later (least_kind kinds bytes))

  -- the longest match at start of at most so many bytes
  abbrev pub longest_within : List K → List ℕ → ℕ → ℕ → Option (Found K)
  longest_within kinds text start zero = None
  longest_within kinds text start (suc size) =
      found_or (start + suc size)
      (least_kind kinds (slice_range text start (start + suc size)))
      (longest_within kinds text start size)

module _ {K : Type 0} (MatchesKind : K → List ℕ → Type 0) (matches : K → List ℕ → Bool)
    (decides : (kind : K) (bytes : List ℕ) → Decides (matches kind bytes) (MatchesKind kind bytes)) where
  -- no kind of the list matches the bytes
  abbrev NoneMatches : List K → List ℕ → Type 0
  NoneMatches kinds bytes =
      (other : ℕ) (kind : K) → slice_get kinds other ≡ Some kind → MatchesKind kind bytes → ⊥

  -- the kind matches the bytes, and none before it does
  record IsLeast (kinds : List K) (bytes : List ℕ) (ranked : Ranked K) : Type 0 where
    pub stands : slice_get kinds ranked.order ≡ Some ranked.kind
    pub match : MatchesKind ranked.kind bytes
    pub least : (other : ℕ) (kind : K) → other < ranked.order → slice_get kinds other ≡ Some kind →
        MatchesKind kind bytes → ⊥

  -- this is the least kind that matches the bytes, or None where none does
  abbrev IsLeastOrNone : List K → List ℕ → Option (Ranked K) → Type 0
  IsLeastOrNone kinds bytes least = MatchOption least (NoneMatches kinds bytes) (IsLeast kinds bytes)

  -- the least kind, where one kind more stands before the others
  least_of_more : (kind : K) (kinds : List K) (bytes : List ℕ) (first : Bool) → matches kind bytes ≡ first →
      (others : Option (Ranked K)) → IsLeastOrNone kinds bytes others →
      IsLeastOrNone (kind ∷ kinds) bytes (cond first (Some (first_ranked kind)) (option_map one_later others))
  least_of_more kind kinds bytes true e others behind = record {
    stands = refl;
    match = (decides kind bytes).0 e;
    least = λ other kind' below is m. absurd (omega arith);
  }
  least_of_more kind kinds bytes false e None behind = elim [
    | zero ↦ λ kind' is m. let same : kind ≡ kind' = cc in not_from_Decides (matches kind bytes) (decides kind bytes) e (rw same m)
    | suc other ↦ λ kind' is m. behind other kind' is m
  ]
  least_of_more kind kinds bytes false e (Some ranked) behind = record {
    stands = behind.stands;
    match = behind.match;
    least = elim [
      | zero ↦ λ kind' below is m. let same : kind ≡ kind' = cc in not_from_Decides (matches kind bytes) (decides kind bytes) e (rw same m)
      | suc other ↦ λ kind' below is m. behind.least other kind' (omega arith) is m
    ];
  }

  -- the tests give the least kind
  least_kind_is : (kinds : List K) (bytes : List ℕ) →
      IsLeastOrNone kinds bytes (least_kind matches kinds bytes)
  least_kind_is [] bytes = λ other kind is m. cc
  least_kind_is (kind ∷ kinds) bytes =
      least_of_more kind kinds bytes (matches kind bytes) refl
      (least_kind matches kinds bytes) (least_kind_is kinds bytes)

  -- what was found is the longest match at start, and its kind stands in the list
  pub record IsFound (kinds : List K) (text : List ℕ) (start : ℕ) (found : Found K) : Type 0 where
    pub is_longest : IsLongestMatch MatchesKind kinds text found.order start found.end
    pub stands : slice_get kinds found.order ≡ Some found.kind

  module _ (kinds : List K) (text : List ℕ) (start : ℕ) where
    -- this is the longest match at start, or None where nothing matches
    abbrev IsFoundOrNone : Option (Found K) → Type 0
    IsFoundOrNone found = MatchOption found (IsUnmatched MatchesKind kinds text start) (IsFound kinds text start)

    -- no match from start on ends behind this place
    abbrev NoneLater : ℕ → Type 0
    NoneLater end = (other later : ℕ) → end < later → later ≤ length text →
        MatchesAt MatchesKind kinds text other start later → ⊥

    -- none ends behind a place, if none ends at the next place and none ends behind that
    none_later : (end : ℕ) → NoneMatches kinds (slice_range text start (suc end)) → NoneLater (suc end) →
        NoneLater end
    none_later end here later other behind after within m =
        elim (cases_lt (suc end) behind) [
          | inl more ↦ later other behind more within m
          | inr less ↦
              let same : behind ≡ suc end = omega arith in
              let bytes : slice_range text start behind ≡ slice_range text start (suc end) =
              ap (slice_range text start) same in
              here other m.0 m.1 (rw bytes at m.2)
        ]

    -- the search among more bytes, from the least kind at their end and from what is found among fewer
    longest_of_more : (size : ℕ) → start + suc size ≤ length text → NoneLater (start + suc size) →
        (least : Option (Ranked K)) →
        IsLeastOrNone kinds (slice_range text start (start + suc size)) least →
        (shorter : Option (Found K)) → (NoneLater (start + size) → IsFoundOrNone shorter) →
        IsFoundOrNone (found_or (start + suc size) least shorter)
    longest_of_more size within later None is shorter below =
        let suc_is : start + suc size ≡ suc (start + size) = omega arith in
        below (none_later (start + size) (rw suc_is at is) (rw suc_is at later))
    longest_of_more size within later (Some ranked) is shorter below = record {
      is_longest = record {
        some = omega arith;
        within = within;
        matches = (ranked.kind, is.stands, is.match);
        longest = later;
        least = λ other before m. is.least other m.0 before m.1 m.2;
      };
      stands = is.stands;
    }

    -- the search finds the longest match, where none is longer than what it looks at
    pub longest_is : (size : ℕ) → start + size ≤ length text →
        ((other later : ℕ) → start + size < later → later ≤ length text →
        MatchesAt MatchesKind kinds text other start later → ⊥) →
        MatchOption (longest_within matches kinds text start size)
        (IsUnmatched MatchesKind kinds text start) (IsFound kinds text start)
    longest_is zero within later = λ other end some below m. later other end (omega arith) below m
    longest_is (suc size) within later =
        longest_of_more size within later
        (least_kind matches kinds (slice_range text start (start + suc size)))
        (least_kind_is kinds (slice_range text start (start + suc size)))
        (longest_within matches kinds text start size)
        (λ none. longest_is size (omega arith) none)
