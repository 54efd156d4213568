-- The longest front that an automaton accepts, as one byte more is read.
use Rattle.std.proofs.Common.{inl, inr, ◌≡◌, ℕ, ◌+◌, ◌<◌, ◌≤◌, List, [], ◌∷◌, ◌++◌, length, take, drop, get_or, Option, Some, None, refl, sym, ◌∙◌, ap, subst, arith}
use Rattle.std.proofs.lemmas.Bool.{cases_lt}
use Rattle.std.proofs.lemmas.List.{take_more, take-take, take-append-drop}
use Rattle.lbnf_regex.specs.declared.kind.Kind.{Kind}
use Rattle.lbnf_regex.specs.Automata.{Machine, state_behind, walk}
use Rattle.text_store.specs.declared.fronts.Front.{Front}
use Rattle.text_store.specs.Lexing.{kind_in, kind_behind, AcceptsNone, IsFrontOrNone, front_or}

-- from no state no bytes lead to one
walk_none : (rows : List (List (Option ℕ))) (bytes : List ℕ) → walk rows None bytes ≡ None
walk_none rows [] = refl
walk_none rows (byte ∷ bytes) = walk_none rows bytes

-- bytes lead on from where the bytes before them lead
walk_on : (rows : List (List (Option ℕ))) (state : Option ℕ) (bytes more : List ℕ) →
    walk rows state (bytes ++ more) ≡ walk rows (walk rows state bytes) more
walk_on rows state [] more = refl
walk_on rows state (byte ∷ bytes) more = walk_on rows (state_behind rows state byte) bytes more

module _ (a : Machine) (bytes : List ℕ) (read : ℕ) where
  -- where the front of so many bytes leads
  abbrev state_after : ℕ → Option ℕ
  state_after len = walk a.rows (Some 0) (take len bytes)

  -- the front of one byte more leads to the next state
  pub one_more : (state : ℕ) (next : Option ℕ) → read < length bytes →
      walk a.rows (Some 0) (take read bytes) ≡ Some state →
      next ≡ state_behind a.rows (Some state) (get_or bytes read 0) →
      walk a.rows (Some 0) (take (read + 1) bytes) ≡ next
  one_more state next within alive is =
      ap (walk a.rows (Some 0)) (take_more bytes read 0 within)
      ∙ walk_on a.rows (Some 0) (take read bytes) (get_or bytes read 0 ∷ [])
      ∙ ap (λ (s : Option ℕ). walk a.rows s (get_or bytes read 0 ∷ [])) alive
      ∙ sym is

  -- behind a front that leads nowhere nothing is accepted
  dead_behind : state_after (read + 1) ≡ None →
      (len : ℕ) → read < len → kind_behind a (take len bytes) ≡ None
  dead_behind dead len more =
      let front : List ℕ = take (read + 1) bytes in
      let behind : List ℕ = drop (read + 1) (take len bytes) in
      let split : take len bytes ≡ front ++ behind =
      sym (take-append-drop (read + 1) (take len bytes))
      ∙ ap (λ (q : List ℕ). q ++ behind) (take-take (read + 1) len bytes (omega arith)) in
      let nowhere : state_after len ≡ None =
      ap (walk a.rows (Some 0)) split
      ∙ walk_on a.rows (Some 0) front behind
      ∙ ap (λ (s : Option ℕ). walk a.rows s behind) dead
      ∙ walk_none a.rows behind in
      ap (kind_in a) nowhere

  -- where no longer front is accepted, none is of any size
  none_longer : (from size : ℕ) → AcceptsNone a bytes from read →
      ((len : ℕ) → read < len → kind_behind a (take len bytes) ≡ None) → AcceptsNone a bytes from size
  none_longer from size here behind len after within = elim (cases_lt read len) [
    | inl more ↦ behind len more
    | inr less ↦ here len after less
  ]

  -- what is the longest so far is the longest of all, where one byte more leads nowhere
  pub stops : (best : Option Front) (next : Option ℕ) → next ≡ None →
      walk a.rows (Some 0) (take (read + 1) bytes) ≡ next →
      read ≤ length bytes →
      IsFrontOrNone a bytes read best → IsFrontOrNone a bytes (length bytes) best
  stops None next none is within best =
      none_longer 0 (length bytes) best (dead_behind (is ∙ none))
  stops (Some front) next none is within best = record {
    some = best.some;
    within = omega (arith, best.within, within);
    accepted = best.accepted;
    longest = none_longer front.len (length bytes) best.longest (dead_behind (is ∙ none));
  }

  -- of one byte more nothing is accepted
  none_here : (from : ℕ) → AcceptsNone a bytes from read → kind_behind a (take (read + 1) bytes) ≡ None →
      AcceptsNone a bytes from (read + 1)
  none_here from before here len after within = elim (cases_lt read len) [
    | inl more ↦
        let same : read + 1 ≡ len = omega (arith, more, within) in
        subst (λ (n : ℕ). kind_behind a (take n bytes) ≡ None) same here
    | inr less ↦ before len after less
  ]

  -- the longest front of one byte more
  pub best_more : (best : Option Front) (kind : Option Kind) → IsFrontOrNone a bytes read best →
      kind_behind a (take (read + 1) bytes) ≡ kind →
      IsFrontOrNone a bytes (read + 1) (front_or kind (read + 1) best)
  best_more None None best is = none_here 0 best is
  best_more (Some front) None best is = record {
    some = best.some;
    within = omega (arith, best.within);
    accepted = best.accepted;
    longest = none_here front.len best.longest is;
  }
  best_more best (Some kind) before is = record {
    some = omega arith;
    within = omega arith;
    accepted = is;
    longest = λ len after within. absurd (omega (arith, after, within));
  }
