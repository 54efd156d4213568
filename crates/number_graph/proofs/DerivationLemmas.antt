-- The search for what follows from implications.
use Rattle.std.proofs.Common.{◌≡◌, ◌≢◌, ℕ, zero, suc, ◌+◌, ◌<◌, ◌≤◌, ◌⊎◌, inl, inr, List, [], ◌∷◌, ◌++◌, Bool, true, false}
use Rattle.std.proofs.Common.{length, take, drop, slice_set, slice_index_or, replicate, refl, sym, ap, ◌∙◌, arith, subst}
use Rattle.std.proofs.Common.{length-set, get_or-set_other}
use Rattle.std.specs.List.{Contains}
use Rattle.std.proofs.lemmas.Bool.{cases_eq, cases_lt}
use Rattle.std.proofs.lemmas.Grind.{get_or-set_at}
use Rattle.std.proofs.lemmas.List.{get_or_default, get_or_push, get_or_append_left, length_push, length-replicate, take_all, take_more, take-append-le, take-append-drop}
use Rattle.std.proofs.lemmas.List.Elements.{Contains-append_left, Contains-push, Contains-push_cases}
use Rattle.number_graph.specs.Graphs.{HasLink, IsSet}
use Rattle.number_graph.specs.Flags.{FlagsOne, clear_count}
use Rattle.number_graph.specs.Derivations.{IsBlank, IsFounded, IsDerivationOrder, IsSettled, IsDeriving, IsUnderWay, Settles, SettlesEach, IsSettledUpTo, IsFound}
use Rattle.number_graph.specs.declared.derivation.Search.{Search}
use Rattle.number_graph.proofs.LinkLemmas.{no_link, stands_at}
use Rattle.number_graph.proofs.FlagLemmas.{none_set, set_within, set_here, set_kept, set_before, clear_count-set}

-- one number more behind an order leaves its front as it was
pub front_kept :
    (order : List ℕ) (n next : ℕ) → next ≤ length order → take next (order ++ n ∷ []) ≡ take next order
front_kept order n next short = take-append-le next order (n ∷ []) short

-- what stands at the front of a list stands in it
pub front_has : (order : List ℕ) (next p : ℕ) → Contains (take next order) p → Contains order p
front_has order next p has =
    subst (λ xs. Contains xs p) (take-append-drop next order)
    (Contains-append_left (take next order) (drop next order) p has)

-- what stands in a front with one more stands in the front, or is the one
pub front_or_last :
    (xs : List ℕ) (place : ℕ)
    → place < length xs → (j : ℕ) → Contains (take (place + 1) xs) j
    → Contains (take place xs) j ⊎ (j ≡ slice_index_or xs place 0)
front_or_last xs place within j has =
    let longer : Contains (take place xs ++ slice_index_or xs place 0 ∷ []) j =
    subst (λ ys. Contains ys j) (take_more xs place 0 within) has in
    elim (Contains-push_cases (take place xs) (slice_index_or xs place 0) j longer) [
      | inl before ↦ inl before
      | inr same ↦ inr (sym same)
    ]

-- what is below a number and one more is below the number, or is the number
pub below_or_last : (i n : ℕ) → i < n + 1 → (i < n) ⊎ (i ≡ n)
below_or_last i n below = grind (arith, below)

-- a number that is not in a front and not behind it is not in the front with one more
pub not_in_longer_front :
    (order : List ℕ) (next p : ℕ)
    → next < length order → (Contains (take next order) p → ⊥) → p ≢ slice_index_or order next 0
    → Contains (take (next + 1) order) p → ⊥
not_in_longer_front order next p within not_before differ has =
    elim (front_or_last order next within p has) [
      | inl before ↦ not_before before
      | inr same ↦ differ same
    ]

module _ (premises : List (List ℕ)) (conclusions : List ℕ) where
  module _ (flags : List Bool) (order places : List ℕ) (waiting : List (List ℕ))
      (search : IsDeriving premises conclusions flags order places waiting) where
    -- a search goes on with a place moved behind premises that have their flags
    pub place_moved :
        (i place : ℕ)
        → i < length conclusions
        → ((k : ℕ) → slice_index_or places i 0 ≤ k → k < place → k < length (slice_index_or premises i [])
        → IsSet flags (slice_index_or (slice_index_or premises i []) k 0))
        → IsDeriving premises conclusions flags order (slice_set places i place) waiting
    place_moved i place within more = record {
      waiting_count = search.waiting_count;
      place_count = length-set places i place ∙ search.place_count;
      known = search.known;
      flagged = search.flagged;
      few = search.few;
      founded = search.founded;
      passed = λ j k before short. elim (cases_eq j i) [
        | inr differ ↦
            search.passed j k (subst (λ n. k < n) (get_or-set_other places i j place 0 differ) before) short
        | inl same ↦
            let is : slice_index_or (slice_set places i place) j 0 ≡ place =
            get_or-set_at places i j place 0 same (omega (arith, within, search.place_count)) in
            let P : ℕ → Type 0 = λ m. IsSet flags (slice_index_or (slice_index_or premises m []) k 0) in
            let Q : ℕ → Type 0 = λ m. k < length (slice_index_or premises m []) in
            subst P (sym same) (own k (subst (λ n. k < n) is before) (subst Q same short))
      ];
      waits = search.waits;
    }
      where
        own :
            (k : ℕ) → k < place → k < length (slice_index_or premises i [])
            → IsSet flags (slice_index_or (slice_index_or premises i []) k 0)
        own k before short = elim (cases_lt k (slice_index_or places i 0)) [
          | inl passed ↦ search.passed i k passed short
          | inr behind ↦ more k behind before short
        ]

    module _ (p i : ℕ) (list : List ℕ) (within : p < length flags) (is : i < length conclusions)
        (is_list : list ≡ slice_index_or waiting p list) where
      -- what the list of the number is, with the implication behind it
      own_list : (n : ℕ) → n ≡ p → slice_index_or (slice_set waiting p (list ++ i ∷ [])) n [] ≡ list ++ i ∷ []
      own_list n same =
          get_or-set_at waiting p n (list ++ i ∷ []) [] same (omega (arith, within, search.waiting_count))

      -- what waited for the number
      was_list : (n : ℕ) → n ≡ p → slice_index_or waiting n [] ≡ list
      was_list n same =
          ap (λ k. slice_index_or waiting k []) same
          ∙ sym (is_list ∙ get_or_default waiting p list [] (omega (arith, within, search.waiting_count)))

      -- what waits for a number, with the implication behind those of one
      waits_now :
          (n j : ℕ)
          → Contains (slice_index_or (slice_set waiting p (list ++ i ∷ [])) n []) j
          → Contains (slice_index_or waiting n []) j ⊎ (j ≡ i)
      waits_now n j has = elim (cases_eq n p) [
        | inr differ ↦ inl (subst (λ xs. Contains xs j) (get_or-set_other waiting p n (list ++ i ∷ []) [] differ) has)
        | inl same ↦ elim (Contains-push_cases list i j (subst (λ xs. Contains xs j) (own_list n same) has)) [
          | inl old ↦ inl (subst (λ xs. Contains xs j) (sym (was_list n same)) old)
          | inr new ↦ inr (sym new)
        ]
      ]

      -- what waited for a number still waits for it
      pub waits_still :
          (n j : ℕ)
          → Contains (slice_index_or waiting n []) j
          → Contains (slice_index_or (slice_set waiting p (list ++ i ∷ [])) n []) j
      waits_still n j has = elim (cases_eq n p) [
        | inr differ ↦ subst (λ xs. Contains xs j) (sym (get_or-set_other waiting p n (list ++ i ∷ []) [] differ)) has
        | inl same ↦
            let old : Contains list j = subst (λ xs. Contains xs j) (was_list n same) has in
            subst (λ xs. Contains xs j) (sym (own_list n same)) (Contains-append_left list (i ∷ []) j old)
      ]

      -- the implication waits for the number
      pub waits_here : Contains (slice_index_or (slice_set waiting p (list ++ i ∷ [])) p []) i
      waits_here = subst (λ xs. Contains xs i) (sym (own_list p refl)) (Contains-push list i)

      -- a search goes on with an implication that waits for a number
      pub deferred : IsDeriving premises conclusions flags order places (slice_set waiting p (list ++ i ∷ []))
      deferred = record {
        waiting_count = length-set waiting p (list ++ i ∷ []) ∙ search.waiting_count;
        place_count = search.place_count;
        known = search.known;
        flagged = search.flagged;
        few = search.few;
        founded = search.founded;
        passed = search.passed;
        waits = λ n j has. elim (waits_now n j has) [
          | inl old ↦ search.waits n j old
          | inr same ↦ subst (λ k. k < length conclusions) (sym same) is
        ];
      }

    module _ (n : ℕ) (within : n < length flags) (founded : IsFounded premises conclusions order n) where
      -- with a number behind it that is founded on it, an order is still one
      order_more : IsDerivationOrder premises conclusions (order ++ n ∷ [])
      order_more k short = elim (cases_lt k (length order)) [
        | inl front ↦
            let old = search.founded k front in
            let Has : ℕ → Type 0 = λ m. IsFounded premises conclusions (take k (order ++ n ∷ [])) m in
            let Known : List ℕ → Type 0 = λ xs. IsFounded premises conclusions xs (slice_index_or order k 0) in
            subst Has (sym (get_or_append_left order (n ∷ []) 0 k front))
            (subst Known (sym (front_kept order n k (omega (arith, front)))) old)
        | inr last ↦
            let is : length order ≡ k = omega (arith, last, short, length_push order n) in
            let Has : ℕ → Type 0 = λ m. IsFounded premises conclusions (take k (order ++ n ∷ [])) m in
            let Known : List ℕ → Type 0 = λ xs. IsFounded premises conclusions xs n in
            let front : take k (order ++ n ∷ []) ≡ order =
            front_kept order n k (omega (arith, is)) ∙ take_all k order (omega (arith, is)) in
            subst Has (sym (get_or_push order n 0 k is)) (subst Known (sym front) founded)
      ]

      -- a search goes on with a number that is founded on those that are known
      pub concluded :
          slice_index_or flags n false ≡ false
          → IsDeriving premises conclusions (slice_set flags n true) (order ++ n ∷ []) places waiting
      concluded clear = record {
        waiting_count = search.waiting_count ∙ sym (length-set flags n true);
        place_count = search.place_count;
        known = λ m is. elim (set_before flags n m is) [
          | inl old ↦ Contains-append_left order (n ∷ []) m (search.known m old)
          | inr same ↦ subst (λ k. Contains (order ++ n ∷ []) k) (sym same) (Contains-push order n)
        ];
        flagged = λ m has. elim (Contains-push_cases order n m has) [
          | inl old ↦ set_kept flags n m within (search.flagged m old)
          | inr same ↦ set_here flags n m within (sym same)
        ];
        few = omega (arith, search.few, clear_count-set flags n within clear, length_push order n, length-set flags n true);
        founded = order_more;
        passed = λ i k before short.
            set_kept flags n (slice_index_or (slice_index_or premises i []) k 0) within (search.passed i k before short);
        waits = search.waits;
      }

  module _ (flags : List Bool) (order places : List ℕ) (waiting : List (List ℕ)) (i place : ℕ)
      (search : IsDeriving premises conclusions flags order places waiting) (is : i < length conclusions)
      (more : (k : ℕ) → slice_index_or places i 0 ≤ k → k < place → k < length (slice_index_or premises i [])
      → IsSet flags (slice_index_or (slice_index_or premises i []) k 0)) where
    -- the search with the place of the implication moved
    moved : IsDeriving premises conclusions flags order (slice_set places i place) waiting
    moved = place_moved flags order places waiting search i place is more

    -- an implication is settled that waits for a premise whose flag is clear
    pub settled_waiting :
        (p : ℕ) (list : List ℕ)
        → HasLink premises i p → p < length flags → (IsSet flags p → ⊥)
        → list ≡ slice_index_or waiting p list
        → Settles premises conclusions (λ j. j ≡ i) flags order waiting
        flags order (slice_set places i place) (slice_set waiting p (list ++ i ∷ []))
    settled_waiting p list link within clear is_list = record {
      under_way = deferred flags order (slice_set places i place) waiting moved p i list within is is_list;
      same_count = refl;
      longer = omega arith;
      here = λ next j short same.
          let Waits : ℕ → Type 0 =
          IsSettled premises conclusions next order (slice_set waiting p (list ++ i ∷ [])) in
          subst Waits (sym same) (inr (
            p,
            link,
            waits_here flags order places waiting search p i list within is is_list,
            (λ has. clear (search.flagged p (front_has order next p has))),
          ));
      kept = λ next j short old. elim old [
        | inl found ↦ inl found
        | inr (q, has, waits, not_front) ↦
            inr (q, has, waits_still flags order places waiting search p i list within is is_list q j waits, not_front)
      ];
    }

    -- where the place of an implication is behind its premises, all of them are known
    premises_known :
        length (slice_index_or premises i []) ≤ place
        → (p : ℕ) → HasLink premises i p → Contains order p
    premises_known past p (k, short, at_k) =
        let numbers : List ℕ = slice_index_or premises i [] in
        let is_p : slice_index_or numbers k 0 ≡ p = sym (get_or_default numbers k p 0 short) ∙ at_k in
        let place_is : slice_index_or (slice_set places i place) i 0 ≡ place =
        get_or-set_at places i i place 0 refl (omega (arith, is, search.place_count)) in
        let before : k < slice_index_or (slice_set places i place) i 0 = omega (arith, short, past, place_is) in
        subst (Contains order) is_p (search.known (slice_index_or numbers k 0) (moved.passed i k before short))

    -- an implication is settled whose premises are known, and whose conclusion has its flag now
    pub settled_known :
        (n : ℕ) (new : List Bool) (longer : List ℕ)
        → n ≡ slice_index_or conclusions i 0 → n < length flags
        → length (slice_index_or premises i []) ≤ place
        → FlagsOne n flags new order longer
        → Settles premises conclusions (λ j. j ≡ i) flags order waiting
        new longer (slice_set places i place) waiting
    settled_known n new longer is_n within past (inl (set, same, kept)) = rw (same, kept) (record {
      under_way = moved;
      same_count = refl;
      longer = omega arith;
      here = λ next j short is_i.
          inl (subst (Contains order) (is_n ∙ ap (λ m. slice_index_or conclusions m 0) (sym is_i)) (search.known n set));
      kept = λ next j short old. old;
    })
    settled_known n new longer is_n within past (inr (clear, set, more_order)) = rw (set, more_order) (record {
      under_way =
          concluded flags order (slice_set places i place) waiting moved n within
          (i, is, sym is_n, premises_known past) clear;
      same_count = length-set flags n true;
      longer = omega (arith, length_push order n);
      here = λ next j short is_i.
          inl (subst (Contains (order ++ n ∷ [])) (is_n ∙ ap (λ m. slice_index_or conclusions m 0) (sym is_i))
          (Contains-push order n));
      kept = λ next j short old. elim old [
        | inl found ↦ inl (Contains-append_left order (n ∷ []) (slice_index_or conclusions j 0) found)
        | inr (q, has, waits, not_front) ↦
            inr (q, has, waits, (λ front. not_front (subst (λ xs. Contains xs q) (front_kept order n next short) front)))
      ];
    })

  -- a number of the order has a list of what waits for it
  pub number_within :
      (flags : List Bool) (order places : List ℕ) (waiting : List (List ℕ)) (place number : ℕ)
      → IsDeriving premises conclusions flags order places waiting → place < length order
      → number ≡ slice_index_or order place 0 → number < length waiting
  number_within flags order places waiting place number search within is =
      let has : IsSet flags (slice_index_or order place 0) =
      search.flagged (slice_index_or order place 0) (stands_at order place within) in
      omega (arith, search.waiting_count, set_within flags (slice_index_or order place 0) has, is)

  -- more implications settled behind others
  pub settles_more :
      (Given Then More : ℕ → Type 0) (old middle new : Search)
      → SettlesEach premises conclusions Given old middle → SettlesEach premises conclusions Then middle new
      → ((j : ℕ) → More j → Given j ⊎ Then j)
      → SettlesEach premises conclusions More old new
  settles_more Given Then More old middle new first second cases = record {
    under_way = second.under_way;
    same_count = second.same_count ∙ first.same_count;
    longer = omega (arith, first.longer, second.longer);
    here = λ next j short more. elim (cases j more) [
      | inl given ↦ second.kept next j (omega (arith, short, first.longer)) (first.here next j short given)
      | inr last ↦ second.here next j (omega (arith, short, first.longer)) last
    ];
    kept = λ next j short is.
        second.kept next j (omega (arith, short, first.longer)) (first.kept next j short is);
  }

  -- where no implication is given, a search settles them all
  pub settles_none :
      (Given : ℕ → Type 0) (search : Search)
      → IsUnderWay premises conclusions search → ((j : ℕ) → Given j → ⊥)
      → SettlesEach premises conclusions Given search search
  settles_none Given search under_way none = record {
    under_way = under_way;
    same_count = refl;
    longer = omega arith;
    here = λ next j short given. absurd (none j given);
    kept = λ next j short is. is;
  }

  -- a search that knows nothing yet is under way
  pub blank_under_way :
      (numbers : ℕ) (search : Search)
      → IsBlank numbers (length conclusions) search → IsUnderWay premises conclusions search
  blank_under_way numbers search blank = rw (blank.flags, blank.order, blank.places, blank.waiting) (record {
    waiting_count = length-replicate numbers [] ∙ sym (length-replicate numbers false);
    place_count = length-replicate (length conclusions) 0;
    known = λ n is. absurd (none_set numbers n is);
    flagged = λ n has. absurd (omega (arith, has.1));
    few = few_clear numbers;
    founded = λ k short. absurd (omega (arith, short));
    passed = λ i k before short. absurd (omega (arith, before, each_alike (length conclusions) i 0));
    waits = λ n i has. absurd (no_link numbers n i has);
  })
    where
      few_clear : (count : ℕ) → 0 + clear_count (replicate count false) ≤ length (replicate count false)
      few_clear zero = omega arith
      few_clear (suc count) =
          let others = few_clear count in
          omega arith

      each_alike : (count i x : ℕ) → slice_index_or (replicate count x) i x ≡ x
      each_alike zero i x = refl
      each_alike (suc count) zero x = refl
      each_alike (suc count) (suc i) x = each_alike count i x

  -- a search in which each implication is settled from nothing
  pub all_settled :
      (numbers n : ℕ) (blank search : Search)
      → IsBlank numbers (length conclusions) blank → length conclusions ≤ n
      → SettlesEach premises conclusions (λ j. j < n) blank search
      → IsSettledUpTo premises conclusions numbers 0 search
  all_settled numbers n blank search is past settles = record {
    under_way = settles.under_way;
    count = settles.same_count ∙ ap length is.flags ∙ length-replicate numbers false;
    within = omega arith;
    all_settled = λ i short. settles.here 0 i (omega arith) (omega (arith, short, past));
  }

  module _ (flags : List Bool) (order places : List ℕ) (waiting : List (List ℕ)) (place number : ℕ)
      (search : IsDeriving premises conclusions flags order places waiting)
      (within : number < length waiting) where
    -- what waits for another number than the one whose list is taken
    others_wait :
        (n j : ℕ) → n ≢ number
        → slice_index_or (slice_set waiting number []) n [] ≡ slice_index_or waiting n []
    others_wait n j differ = get_or-set_other waiting number n [] [] differ

    -- a search goes on where nothing waits for a number any longer
    pub taken_under_way : IsDeriving premises conclusions flags order places (slice_set waiting number [])
    taken_under_way = record {
      waiting_count = length-set waiting number [] ∙ search.waiting_count;
      place_count = search.place_count;
      known = search.known;
      flagged = search.flagged;
      few = search.few;
      founded = search.founded;
      passed = search.passed;
      waits = λ n i has. elim (cases_eq n number) [
        | inr differ ↦ search.waits n i (subst (λ xs. Contains xs i) (others_wait n i differ) has)
        | inl same ↦
            let none = subst (λ xs. Contains xs i) (get_or-set_at waiting number n [] [] same within) has in
            absurd (omega (arith, none.1))
      ];
    }

    -- an implication that is settled waits for the number, or is settled without it
    pub settled_or_waits :
        (j : ℕ) → place < length order → number ≡ slice_index_or order place 0
        → IsSettled premises conclusions place order waiting j
        → Contains (slice_index_or waiting number []) j
        ⊎ IsSettled premises conclusions (place + 1) order (slice_set waiting number []) j
    settled_or_waits j short is (inl found) = inr (inl found)
    settled_or_waits j short is (inr (q, has, waits, not_front)) = elim (cases_eq q number) [
      | inl same ↦ inl (subst (λ m. Contains (slice_index_or waiting m []) j) same waits)
      | inr differ ↦ inr (inr (
        q,
        has,
        subst (λ xs. Contains xs j) (sym (others_wait q j differ)) waits,
        not_in_longer_front order place q short not_front (λ same. differ (same ∙ sym is)),
      ))
    ]

  -- with those that waited for a number settled, each implication is settled behind the number
  pub settled_behind :
      (total place number : ℕ) (list : List ℕ) (old new : Search)
      → IsSettledUpTo premises conclusions total place old → place < length old.order.items
      → number ≡ slice_index_or old.order.items place 0 → number < length old.waiting.items
      → list ≡ slice_index_or old.waiting.items number []
      → Settles premises conclusions (Contains list) old.flags.items old.order.items
      (slice_set old.waiting.items number []) new.flags.items new.order.items new.places.items new.waiting.items
      → IsSettledUpTo premises conclusions total (place + 1) new
  settled_behind total place number list old new before short is within is_list settles = record {
    under_way = settles.under_way;
    count = settles.same_count ∙ before.count;
    within = omega (arith, settles.longer, short);
    all_settled = λ i is_i. elim (settled_or_waits old.flags.items old.order.items old.places.items
        old.waiting.items place number before.under_way within i short is (before.all_settled i is_i)) [
          | inl waits ↦ settles.here (place + 1) i (omega (arith, short)) (subst (λ xs. Contains xs i) (sym is_list) waits)
          | inr settled ↦ settles.kept (place + 1) i (omega (arith, short)) settled
        ];
  }

  -- where each number of the order was looked at, the search has found what follows
  pub search_found :
      (total next : ℕ) (search : Search)
      → IsSettledUpTo premises conclusions total next search → length search.order.items ≤ next
      → IsFound premises conclusions total search
  search_found total next search settled past = record {
    under_way = settled.under_way;
    count = settled.count;
    all_done = λ i is. elim (settled.all_settled i is) [
      | inl found ↦ inl found
      | inr (p, has, waits, not_front) ↦
          inr (p, has, (λ among. not_front (subst (λ xs. Contains xs p) (sym (take_all next search.order.items past)) among)))
    ];
  }
