-- The table leads to the set of the text.
use Rattle.std.proofs.Common.{◌≡◌, ◌≢◌, ℕ, ◌<◌, ◌↔◌, List, [], ◌∷◌, ◌++◌, length, Option, Some, None, slice_index_or, refl, sym, append_assoc, subst}
use Rattle.std.proofs.lemmas.List.{append-nil}
use Rattle.std.proofs.lemmas.List.Elements.{All-head, All-tail}
use Rattle.spec_automata.specs.ByteExpressions.{ByteExpression}
use Rattle.spec_automata.specs.Positions.{HasPosition}
use Rattle.spec_automata.specs.States.{AreBytes}
use Rattle.lbnf_regex.specs.Automata.{state_behind, walk, IsExact}
use Rattle.lbnf_regex.specs.States.{IsReached, state_at, IsStateEntry, IsStateRow, IsTable}
use Rattle.lbnf_regex.proofs.CountingLemmas.{StandsFor, start_stands, stands, dead, next_is, push_some, front_ends}
use Rattle.lbnf_regex.proofs.StateLemmas.{some_in}

module _ (x : ByteExpression) (most : ℕ) (states : List (List ℕ)) (rows : List (List (Option ℕ)))
    (table : IsTable x most states rows) where
  -- the text leads to the state
  abbrev pub LeadsOnTo : List ℕ → Option ℕ → Type 0
  LeadsOnTo v None = (v ≢ []) × (HasPosition x v → ⊥)
  LeadsOnTo v (Some i) = (i < length states) × StandsFor x v (state_at states i)

  by_entry : (v : List ℕ) (b i : ℕ) (e : Option ℕ) → StandsFor x v (state_at states i) →
      IsStateEntry x states (state_at states i) b e → LeadsOnTo (v ++ b ∷ []) e
  by_entry v b i None is h = (push_some v b, λ e. dead x v (state_at states i) b [] e.0 is h e.1)
  by_entry v b i (Some j) is h =
      let reached : IsReached x (state_at states j) = table.are_states.reached j h.0 h.1 in (
        h.1,
        stands x (v ++ b ∷ []) (state_at states j) (push_some v b) reached.some
            (next_is x v (state_at states i) (state_at states j) b is h.2),
      )

  one_byte : (v : List ℕ) (s : Option ℕ) (b : ℕ) → b < 256 → LeadsOnTo v s → LeadsOnTo (v ++ b ∷ []) (state_behind rows s b)
  one_byte v None b lt h = (push_some v b, λ e. h.1 (front_ends x (b ∷ []) v e.0 h.0 e.1))
  one_byte v (Some i) b lt h =
      let row : IsStateRow x states (state_at states i) 256 (slice_index_or rows i []) = table.are_rows.rows_are i h.0 in
      by_entry v b i (slice_index_or (slice_index_or rows i []) b None) h.1 (row.entries b lt)

  leads : (w v : List ℕ) (s : Option ℕ) → AreBytes w → LeadsOnTo v s → LeadsOnTo (v ++ w) (walk rows s w)
  leads [] v s bytes h = subst (λ (z : List ℕ). LeadsOnTo z s) (sym (append-nil v)) h
  leads (b ∷ w) v s bytes h =
      subst (λ (z : List ℕ). LeadsOnTo z (walk rows (state_behind rows s b) w)) (append_assoc v (b ∷ []) w)
      (leads w (v ++ b ∷ []) (state_behind rows s b) (All-tail (λ c. c < 256) b w bytes)
      (one_byte v s b (All-head (λ c. c < 256) b w bytes) h))

  by_end : (w : List ℕ) (s : Option ℕ) → w ≢ [] → LeadsOnTo w s → (s ≡ None) ↔ (HasPosition x w → ⊥)
  by_end w None some h = (λ e. h.1, λ k. refl)
  by_end w (Some i) some h = (
    λ e. cc,
    λ k.
        let c = some_in (state_at states i) (λ n. some (((h.1).0).0 n)) in
        absurd (k (c.0, ((h.1).1 c.0).0 c.1)),
  )

  -- each text leads to its state
  pub leads_all : (w : List ℕ) → AreBytes w → LeadsOnTo w (walk rows (Some 0) w)
  leads_all w bytes =
      leads w [] (Some 0) bytes
      (table.are_states.some, start_stands x (state_at states 0) table.are_states.start)

  pub exact : IsExact x rows
  exact w some bytes = by_end w (walk rows (Some 0) w) some (leads_all w bytes)
