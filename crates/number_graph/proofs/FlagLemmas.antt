-- Flags that are set one by one, and the search that sets them.
use Rattle.std.proofs.Common.{◌≡◌, ℕ, zero, suc, ◌<◌, ◌⊎◌, inl, inr, List, [], ◌∷◌, ◌++◌, Bool, true, false}
use Rattle.std.proofs.Common.{length, slice_set, slice_index_or, replicate, refl, sym, ◌∙◌, arith, subst}
use Rattle.std.proofs.Common.{length-set, length-append, get_or-set_other}
use Rattle.std.specs.List.{Contains}
use Rattle.std.proofs.lemmas.Bool.{false≢true, cases_eq}
use Rattle.std.proofs.lemmas.Grind.{get_or-set_at}
use Rattle.std.proofs.lemmas.List.{length-replicate}
use Rattle.std.proofs.lemmas.List.Elements.{Contains-append_left, Contains-append_right, Contains-append_cases}
use Rattle.std.specs.List.Sorted.{IsPermutation, IsNonDecreasing}
use Rattle.std.proofs.lemmas.List.Sorted.{Contains-permutation, IsPermutation-sym}
use Rattle.number_graph.specs.Graphs.{HasLink, ReachesBy, stay, step, IsSet, AreReached, AreFlagsFromAny}
use Rattle.number_graph.specs.Flags.{clear_count, SetsFlags, IsSearch, HasLookedAt, HasFound}
use Rattle.number_graph.proofs.LinkLemmas.{Contains-one}

-- of clear flags none is set
pub none_set : (count n : ℕ) → IsSet (replicate count false) n → ⊥
none_set zero n is = false≢true is
none_set (suc count) zero is = false≢true is
none_set (suc count) (suc n) is = none_set count n is

-- a flag that is set is one of the flags
pub set_within : (flags : List Bool) (n : ℕ) → IsSet flags n → n < length flags
set_within [] n is = absurd (false≢true is)
set_within (flag ∷ flags) zero is = omega arith
set_within (flag ∷ flags) (suc n) is =
    let others = set_within flags n is in
    omega arith

-- a flag that is set is clear no longer
pub clear_count-set :
    (flags : List Bool) (n : ℕ) → n < length flags → slice_index_or flags n false ≡ false
    → clear_count (slice_set flags n true) < clear_count flags
clear_count-set [] n within is = absurd (omega arith)
clear_count-set (true ∷ flags) zero within is = absurd (false≢true (sym is))
clear_count-set (false ∷ flags) zero within is = omega arith
clear_count-set (true ∷ flags) (suc n) within is = clear_count-set flags n (omega arith) is
clear_count-set (false ∷ flags) (suc n) within is =
    let others = clear_count-set flags n (omega arith) is in
    omega arith

-- setting a flag sets it
pub set_here :
    (flags : List Bool) (m n : ℕ)
    → m < length flags → n ≡ m → IsSet (slice_set flags m true) n
set_here flags m n within same = get_or-set_at flags m n true false same within

-- setting a flag keeps those that are set
pub set_kept :
    (flags : List Bool) (m n : ℕ)
    → m < length flags → IsSet flags n → IsSet (slice_set flags m true) n
set_kept flags m n within is = elim (cases_eq n m) [
  | inl same ↦ set_here flags m n within same
  | inr differ ↦ get_or-set_other flags m n true false differ ∙ is
]

-- a flag that is set was set before, or is the one
pub set_before :
    (flags : List Bool) (m n : ℕ)
    → IsSet (slice_set flags m true) n → IsSet flags n ⊎ (n ≡ m)
set_before flags m n is = elim (cases_eq n m) [
  | inl same ↦ inr same
  | inr differ ↦ inl (sym (get_or-set_other flags m n true false differ) ∙ is)
]

module _ (target : ℕ) (flags : List Bool) (waiting : List ℕ) where
  -- a number that is flagged waits behind the others
  pub flagged : target < length flags → slice_index_or flags target false ≡ false
      → SetsFlags (target ∷ []) flags (slice_set flags target true) waiting (waiting ++ target ∷ [])
  flagged within clear = record {
    count = length-set flags target true;
    kept = λ n is. set_kept flags target n within is;
    set = λ n is. set_here flags target n within (Contains-one target n is);
    sound = λ n is. elim (set_before flags target n is) [
      | inl old ↦ inl old
      | inr new ↦ inr (one n new, Contains-append_right waiting (target ∷ []) n (one n new))
    ];
    waits = λ n is. Contains-append_left waiting (target ∷ []) n is;
    all_set = λ n is. Contains-append_cases waiting (target ∷ []) n is;
    less = omega (arith, clear_count-set flags target within clear, length-append waiting (target ∷ []));
  }
    where
      one : (n : ℕ) → n ≡ target → Contains (target ∷ []) n
      one n same = (0, omega arith, sym same)

-- more targets behind others
pub flags_more : (targets others : List ℕ) (old flags new : List Bool) (start waiting rest : List ℕ)
    → SetsFlags targets old flags start waiting → SetsFlags others flags new waiting rest
    → SetsFlags (targets ++ others) old new start rest
flags_more targets others old flags new start waiting rest before behind = record {
  count = behind.count ∙ before.count;
  kept = λ n is. behind.kept n (before.kept n is);
  set = λ n is. elim (Contains-append_cases targets others n is) [
    | inl first ↦ behind.kept n (before.set n first)
    | inr later ↦ behind.set n later
  ];
  sound = λ n is. elim (behind.sound n is) [
    | inr (later, waits) ↦ inr (Contains-append_right targets others n later, waits)
    | inl flag ↦ elim (before.sound n flag) [
      | inl old ↦ inl old
      | inr (first, waits) ↦ inr (Contains-append_left targets others n first, behind.waits n waits)
    ]
  ];
  waits = λ n is. behind.waits n (before.waits n is);
  all_set = λ n is. elim (behind.all_set n is) [
    | inr later ↦ inr (Contains-append_right targets others n later)
    | inl waited ↦ elim (before.all_set n waited) [
      | inl old ↦ inl old
      | inr first ↦ inr (Contains-append_left targets others n first)
    ]
  ];
  less = omega (arith, before.less, behind.less);
}

module _ (links : List (List ℕ)) (starts : List ℕ) where
  -- a search begins at its numbers
  pub search_starts :
      (flags : List Bool) (waiting : List ℕ)
      → SetsFlags starts (replicate (length links) false) flags [] waiting
      → IsSearch links starts flags waiting
  search_starts flags waiting first = record {
    count = first.count ∙ length-replicate (length links) false;
    begun = first.set;
    sound = λ n is. (n, (first_set n is).0, stay);
    all_set = λ n is. elim (first.all_set n is) [
      | inl past ↦ absurd (omega (arith, past.1))
      | inr start ↦ first.set n start
    ];
    closed = λ n is. inl (first_set n is).1;
  }
    where
      first_set : (n : ℕ) → IsSet flags n → Contains starts n × Contains waiting n
      first_set n is = elim (first.sound n is) [
        | inl past ↦ absurd (none_set (length links) n past)
        | inr start ↦ start
      ]

  -- a search goes on behind the number that was looked at
  pub search_goes_on :
      (number : ℕ) (flags new : List Bool) (waiting rest : List ℕ)
      → IsSearch links starts flags (waiting ++ number ∷ [])
      → SetsFlags (slice_index_or links number []) flags new waiting rest
      → IsSearch links starts new rest
  search_goes_on number flags new waiting rest search added = record {
    count = added.count ∙ search.count;
    begun = λ n start. added.kept n (search.begun n start);
    sound = λ n is. elim (added.sound n is) [
      | inl old ↦ search.sound n old
      | inr (linked, waits) ↦
          let before = search.sound number is_set in
          (before.0, before.1, step before.2 linked)
    ];
    all_set = λ n is. elim (added.all_set n is) [
      | inl old ↦ added.kept n (search.all_set n (Contains-append_left waiting (number ∷ []) n old))
      | inr linked ↦ added.set n linked
    ];
    closed = λ m is. elim (added.sound m is) [
      | inr (linked, waits) ↦ inl waits
      | inl old ↦ elim (search.closed m old) [
        | inr all ↦ inr (λ n has. added.kept n (all n has))
        | inl waited ↦ elim (Contains-append_cases waiting (number ∷ []) m waited) [
          | inl waits ↦ inl (added.waits m waits)
          | inr one ↦
              let same : m ≡ number = Contains-one number m one in
              inr (λ n has. added.set n (let P : ℕ → Type 0 = λ k. HasLink links k n in subst P same has))
        ]
      ]
    ];
  }
    where
      is_set : IsSet flags number
      is_set = search.all_set number (Contains-append_right waiting (number ∷ []) number (0, omega arith, refl))

  -- what waits is a number that has links
  pub next_within : (number : ℕ) (flags : List Bool) (waiting : List ℕ)
      → IsSearch links starts flags (waiting ++ number ∷ []) → number < length links
  next_within number flags waiting search =
      let is : IsSet flags number =
      search.all_set number (Contains-append_right waiting (number ∷ []) number (0, omega arith, refl)) in
      omega (arith, search.count, set_within flags number is)

  -- where nothing waits, what is reached from a number that has its flag has its flag
  reached_is_set :
      (flags : List Bool) (m n : ℕ)
      → IsSearch links starts flags [] → IsSet flags m → ReachesBy (HasLink links) m n → IsSet flags n
  reached_is_set flags m n search is stay = is
  reached_is_set flags m n search is (step {b = l} before last) =
      elim (search.closed l (reached_is_set flags m l search is before)) [
        | inl waits ↦ absurd (omega (arith, waits.1))
        | inr all ↦ all n last
      ]

  -- a search where nothing waits has found what is reached
  pub search_ends :
      (flags : List Bool)
      → IsSearch links starts flags [] → AreFlagsFromAny links starts flags
  search_ends flags search = record {
    count = search.count;
    exact = λ n. (
      search.sound n,
      (λ reached. reached_is_set flags reached.0 n search (search.begun reached.0 reached.1) reached.2),
    );
  }

  -- a search that begins has looked at nothing
  pub looked_starts :
      (flags : List Bool) (waiting : List ℕ)
      → SetsFlags starts (replicate (length links) false) flags [] waiting
      → HasLookedAt links starts flags waiting []
  looked_starts flags waiting first = record {
    search = search_starts flags waiting first;
    seen_set = λ n is. absurd (omega (arith, is.1));
    rest_waits = λ n is. elim (first.sound n is) [
      | inl past ↦ absurd (none_set (length links) n past)
      | inr start ↦ inl start.1
    ];
  }

  -- a search that goes on has looked at one number more
  pub looked_more :
      (number : ℕ) (flags new : List Bool) (waiting rest seen : List ℕ)
      → HasLookedAt links starts flags (waiting ++ number ∷ []) seen
      → SetsFlags (slice_index_or links number []) flags new waiting rest
      → HasLookedAt links starts new rest (seen ++ number ∷ [])
  looked_more number flags new waiting rest seen looked added = record {
    search = search_goes_on number flags new waiting rest looked.search added;
    seen_set = λ n is. elim (Contains-append_cases seen (number ∷ []) n is) [
      | inl before ↦ added.kept n (looked.seen_set n before)
      | inr one ↦ added.kept n (subst (IsSet flags) (sym (Contains-one number n one)) is_set)
    ];
    rest_waits = λ n is. elim (added.sound n is) [
      | inr (linked, waits) ↦ inl waits
      | inl old ↦ elim (looked.rest_waits n old) [
        | inr before ↦ inr (Contains-append_left seen (number ∷ []) n before)
        | inl waited ↦ elim (Contains-append_cases waiting (number ∷ []) n waited) [
          | inl waits ↦ inl (added.waits n waits)
          | inr one ↦ inr (Contains-append_right seen (number ∷ []) n one)
        ]
      ]
    ];
  }
    where
      is_set : IsSet flags number
      is_set =
          looked.search.all_set number
          (Contains-append_right waiting (number ∷ []) number (0, omega arith, refl))

  -- a search where nothing waits has looked at what is reached
  pub looked_ends :
      (flags : List Bool) (seen : List ℕ)
      → HasLookedAt links starts flags [] seen → HasFound links starts flags seen
  looked_ends flags seen looked = record {
    flags_are = search_ends flags looked.search;
    seen_are = λ n. (
      (λ is. looked.search.sound n (looked.seen_set n is)),
      (λ reached. elim (looked.rest_waits n (((search_ends flags looked.search).exact n).1 reached)) [
        | inl waits ↦ absurd (omega (arith, waits.1))
        | inr before ↦ before
      ]),
    );
  }

-- what is reached from a list of one number is what is reached from the number
pub reached_from_one :
    (links : List (List ℕ)) (from : ℕ) (flags : List Bool) (seen numbers : List ℕ)
    → HasFound links (from ∷ []) flags seen → IsPermutation seen numbers → IsNonDecreasing numbers
    → AreReached links from numbers
reached_from_one links from flags seen numbers found moved sorted = record {
  exact = λ n. (
    (λ is.
        let back = IsPermutation-sym seen numbers moved in
        let reached = (found.seen_are n).0 (Contains-permutation numbers seen n back is) in
        let P : ℕ → Type 0 = λ m. ReachesBy (HasLink links) m n in
        subst P (Contains-one from reached.0 reached.1) reached.2),
    (λ reached.
        let has = (found.seen_are n).1 (from, (0, omega arith, refl), reached) in
        Contains-permutation seen numbers n moved has),
  );
  sorted = sorted;
}
