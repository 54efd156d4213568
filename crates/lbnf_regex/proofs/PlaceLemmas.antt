-- The kinds one behind the other, and which of them match a text.
use Rattle.std.proofs.Common.{◌≡◌, ◌≢◌, ℕ, zero, suc, ◌+◌, ◌<◌, ◌≤◌, ◌^◌, ◌↔◌, List, [], ◌∷◌, length, map, drop, get_or, Option, Some, None, IfSome, MatchOption, slice_index_or, refl, sym, ◌∙◌, ap, inl, inr, arith, subst}
use Rattle.std.specs.List.{Contains}
use Rattle.std.proofs.lemmas.Bool.{cases_lt}
use Rattle.std.proofs.lemmas.List.{get_or_default, get_or_past}
use Rattle.std.proofs.lemmas.Option.{same_Some}
use Rattle.spec_automata.specs.ByteExpressions.{ByteExpression, MatchesBytes}
use Rattle.spec_automata.specs.Encoding.{one_of_these}
use Rattle.spec_automata.specs.Positions.{position_count, EndsAt}
use Rattle.lbnf_regex.specs.declared.pattern.Pattern.{Pattern}
use Rattle.lbnf_regex.specs.Automata.{IsWholeMachine, machine_of, MatchesInPlace, AreLeastMatching, RecognisesThese}
use Rattle.lbnf_regex.specs.Patterns.{bytes_of_pattern}
use Rattle.lbnf_regex.specs.Steps.{HasLast}
use Rattle.lbnf_regex.specs.States.{EndsInPlace, IsLeastEnding, ArePlaces, IsTable, IsStateEntry, state_at}
use Rattle.lbnf_regex.proofs.PositionLemmas.{ends_within, last_within, last_to, last_from}
use Rattle.lbnf_regex.proofs.CountingLemmas.{StandsFor}
use Rattle.lbnf_regex.proofs.WalkLemmas.{LeadsOnTo, leads_all, exact}
use Rattle.lbnf_regex.proofs.ExpectingLemmas.{parts_more, parts_end}

module _ (kinds : List Pattern) (i : ℕ) (kind : Pattern) (n m : ℕ) (M : ℕ → Type 0) (lt : i < length kinds)
    (is : kind ≡ get_or kinds i kind) (behind : m ≡ n + position_count (bytes_of_pattern kind)) where
  -- the kind at this place
  pub place_here : EndsInPlace (map bytes_of_pattern (drop i kinds)) n M 0 ↔ HasLast (bytes_of_pattern kind) n M
  place_here =
      let P : List ByteExpression → Type 0 = λ xs. EndsInPlace xs n M 0 in
      (λ h. subst P (parts_more kinds i kind lt is) h, λ h. subst P (sym (parts_more kinds i kind lt is)) h)

  -- those behind it
  pub place_behind : (k : ℕ) → EndsInPlace (map bytes_of_pattern (drop (i + 1) kinds)) m M k
      ↔ EndsInPlace (map bytes_of_pattern (drop i kinds)) n M (k + 1)
  place_behind k =
      let P : List ByteExpression → Type 0 = λ xs. EndsInPlace xs n M (suc k) in
      let Q : ℕ → Type 0 = λ z. EndsInPlace (map bytes_of_pattern (drop (i + 1) kinds)) z M k in
      let R : ℕ → Type 0 = λ z. EndsInPlace (map bytes_of_pattern (drop i kinds)) n M z in
      let up : suc k ≡ k + 1 = omega arith in (
        λ h. subst R up (subst P (sym (parts_more kinds i kind lt is)) (subst Q behind h)),
        λ h. subst Q (sym behind) (subst P (parts_more kinds i kind lt is) (subst R (sym up) h)),
      )

-- behind all kinds there is none
pub no_place : (kinds : List Pattern) (i n k : ℕ) (M : ℕ → Type 0) → length kinds ≤ i →
    EndsInPlace (map bytes_of_pattern (drop i kinds)) n M k → ⊥
no_place kinds i n k M le h =
    absurd (subst (λ (xs : List ByteExpression). EndsInPlace xs n M k) (parts_end kinds i le) h)

-- the marks within the kinds are the positions of the text
abbrev AreMarks : List ByteExpression → ℕ → (ℕ → Type 0) → List ℕ → Type 0
AreMarks xs n M w = (q : ℕ) → n ≤ q → q < n + position_count (one_of_these xs) → M q ↔ EndsAt (one_of_these xs) n w q

first_marks : (x : ByteExpression) (xs : List ByteExpression) (n : ℕ) (M : ℕ → Type 0) (w : List ℕ) →
    AreMarks (x ∷ xs) n M w → (q : ℕ) → n ≤ q → q < n + position_count x → M q ↔ EndsAt x n w q
first_marks x xs n M w marks q low high =
    let here = marks q low (omega (arith, high)) in (
      λ m. elim (here.0 m) [
        | inl e ↦ e
        | inr e ↦ absurd (omega (arith, high, ends_within (one_of_these xs) (n + position_count x) w q e))
      ],
      λ e. here.1 (inl e),
    )

rest_marks : (x : ByteExpression) (xs : List ByteExpression) (n : ℕ) (M : ℕ → Type 0) (w : List ℕ) →
    AreMarks (x ∷ xs) n M w → AreMarks xs (n + position_count x) M w
rest_marks x xs n M w marks q low high =
    let here = marks q (omega (arith, low)) (omega (arith, high)) in (
      λ m. elim (here.0 m) [
        | inl e ↦ absurd (omega (arith, low, ends_within x n w q e))
        | inr e ↦ e
      ],
      λ e. here.1 (inr e),
    )

-- a match ends at a mark in the kinds that match the text
pub place_matches : (xs : List ByteExpression) (n : ℕ) (M : ℕ → Type 0) (w : List ℕ) → w ≢ [] → AreMarks xs n M w →
    (k : ℕ) → EndsInPlace xs n M k ↔ MatchesInPlace xs w k
place_matches [] n M w some marks k = (λ h. absurd h, λ h. cc)
place_matches (x ∷ xs) n M w some marks zero =
    let here = first_marks x xs n M w marks in (
      λ h.
          let within = last_within x n h.0 h.2 in
          (x, refl, last_from x n w h.0 ((here h.0 within.0 within.1).0 h.1) h.2),
      λ h.
          let same : x ≡ h.0 = same_Some x h.0 h.1 in
          let m : MatchesBytes x w = subst (λ (y : ByteExpression). MatchesBytes y w) (sym same) h.2 in
          elim (last_to x n w m) [
            | inl e ↦ absurd (some e)
            | inr l ↦
                let within = last_within x n l.0 l.2 in (l.0, (here l.0 within.0 within.1).1 l.1, l.2)
          ],
    )
place_matches (x ∷ xs) n M w some marks (suc k) =
    place_matches xs (n + position_count x) M w some (rest_marks x xs n M w marks) k

-- the least of some places, by another description of them
pub least_like : (P Q : ℕ → Type 0) (place : Option ℕ) → ((k : ℕ) → P k ↔ Q k) →
    MatchOption place ((k : ℕ) → P k → ⊥) (λ least. P least × ((k : ℕ) → k < least → P k → ⊥)) →
    MatchOption place ((k : ℕ) → Q k → ⊥) (λ least. Q least × ((k : ℕ) → k < least → Q k → ⊥))
least_like P Q None same h = λ k q. h k ((same k).1 q)
least_like P Q (Some least) same h = ((same least).0 h.0, λ k lt q. h.1 k lt ((same k).1 q))

-- the places of the states are the least that match
pub least_are_matching : (xs : List ByteExpression) (most : ℕ) (states : List (List ℕ)) (rows : List (List (Option ℕ)))
    (places : List (Option ℕ)) → IsTable (one_of_these xs) most states rows → ArePlaces xs states places →
    AreLeastMatching xs rows places
least_are_matching xs most states rows places table are bytes state some are_bytes leads =
    let x : ByteExpression = one_of_these xs in
    let on : LeadsOnTo x most states rows table bytes (Some state) =
    subst (LeadsOnTo x most states rows table bytes) leads (leads_all x most states rows table bytes are_bytes) in
    let stands : StandsFor x bytes (state_at states state) = on.1 in
    least_like (EndsInPlace xs 0 (Contains (state_at states state))) (MatchesInPlace xs bytes)
    (slice_index_or places state None)
    (place_matches xs 0 (Contains (state_at states state)) bytes some (λ q low high. stands.1 q))
    (are.least state on.0)

-- a place where a match ends is one of the list
place_within : (xs : List ByteExpression) (n : ℕ) (M : ℕ → Type 0) (k : ℕ) → EndsInPlace xs n M k → k < length xs
place_within [] n M k h = absurd h
place_within (x ∷ xs) n M zero h = omega arith
place_within (x ∷ xs) n M (suc k) h = omega (arith, place_within xs (n + position_count x) M k h)

-- so is a state's
least_within : (xs : List ByteExpression) (M : ℕ → Type 0) (place : Option ℕ) (k : ℕ) → IsLeastEnding xs M place →
    place ≡ Some k → k < length xs
least_within xs M None k least e = cc
least_within xs M (Some j) k least e =
    let same : j ≡ k = same_Some j k e in omega (arith, same, place_within xs 0 M j least.0)

-- a table with places is a whole automaton
pub is_whole : (xs : List ByteExpression) (x : ByteExpression) (most comments : ℕ) (states : List (List ℕ))
    (rows : List (List (Option ℕ))) (places : List (Option ℕ)) → most < 2 ^ 16 → length xs ≤ comments + 1 + 2 ^ 16 →
    IsTable x most states rows → ArePlaces xs states places → IsWholeMachine (machine_of rows places comments)
is_whole xs x most comments states rows places room few table are = (
  omega (arith, table.are_states.some, table.are_rows.size),
  omega (arith, table.few, table.are_rows.size, room),
  are.size ∙ sym table.are_rows.size,
  λ i lt. (table.are_rows.rows_are i (omega (arith, lt, table.are_rows.size))).size,
  λ i b j lt lt_b e.
      let row = table.are_rows.rows_are i (omega (arith, lt, table.are_rows.size)) in
      let within = entry_within x states (state_at states i) b (slice_index_or (slice_index_or rows i []) b None) j
      (row.entries b lt_b) e in
      omega (arith, within, table.are_rows.size),
  λ i k e. elim (cases_lt i (length states)) [
    | inl lt ↦
        let within = least_within xs (Contains (state_at states i)) (slice_index_or places i None) k (are.least i lt) e in
        omega (arith, within, few)
    | inr past ↦
        let none : slice_index_or places i None ≡ None = get_or_past places i None (omega (arith, past, are.size)) in
        let both : None ≡ Some k = sym none ∙ e in cc
  ],
)
  where
    entry_within : (x : ByteExpression) (states : List (List ℕ)) (s : List ℕ) (b : ℕ) (e : Option ℕ) (j : ℕ) →
        IsStateEntry x states s b e → e ≡ Some j → j < length states
    entry_within x states s b None j is e = cc
    entry_within x states s b (Some k) j is e =
        let same : k ≡ j = same_Some k j e in omega (arith, same, is.1)

-- an entry of a row of a whole automaton is a state
pub entry_is_state : (rows : List (List (Option ℕ))) (places : List (Option ℕ)) (comments : ℕ) (row : List (Option ℕ))
    (entry next : Option ℕ) (state byte : ℕ) → IsWholeMachine (machine_of rows places comments) → state < length rows →
    byte < 256 → row ≡ slice_index_or rows state row → entry ≡ slice_index_or row byte entry → next ≡ entry →
    IfSome next (λ j. j < length rows)
entry_is_state rows places comments row entry next state byte whole lt lt_b is_row is_entry is_next =
    let row_at : row ≡ slice_index_or rows state [] = is_row ∙ get_or_default rows state row [] lt in
    let size : length row ≡ 256 = ap (λ (z : List (Option ℕ)). length z) row_at ∙ whole.3 state lt in
    let entry_at : entry ≡ slice_index_or row byte None =
    is_entry ∙ get_or_default row byte entry None (omega (arith, size, lt_b)) in
    let at : next ≡ slice_index_or (slice_index_or rows state []) byte None =
    is_next ∙ entry_at ∙ ap (λ (z : List (Option ℕ)). slice_index_or z byte None) row_at in
    by_next next (λ j e. whole.4 state byte j lt lt_b (sym at ∙ e))
  where
    by_next : (next : Option ℕ) → ((j : ℕ) → next ≡ Some j → j < length rows) → IfSome next (λ j. j < length rows)
    by_next None each = tt
    by_next (Some j) each = each j refl

-- so it recognises the expressions
pub recognises : (xs : List ByteExpression) (most comments : ℕ) (states : List (List ℕ)) (rows : List (List (Option ℕ)))
    (places : List (Option ℕ)) → most < 2 ^ 16 → length xs ≤ comments + 1 + 2 ^ 16 →
    IsTable (one_of_these xs) most states rows → ArePlaces xs states places →
    RecognisesThese xs comments (machine_of rows places comments)
recognises xs most comments states rows places room few table are = record {
  whole = is_whole xs (one_of_these xs) most comments states rows places room few table are;
  exact = exact (one_of_these xs) most states rows table;
  least = least_are_matching xs most states rows places table are;
  count = refl;
}
