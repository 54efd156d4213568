-- A table of all states has as many as there are different sets.
use Rattle.std.proofs.Common.{◌≡◌, ◌≢◌, ℕ, ◌<◌, ◌↔◌, List, [], ◌∷◌, ◌++◌, length, Option, Some, None, slice_index_or, refl, sym, ◌∙◌, ap, inl, inr, arith, append_assoc, subst}
use Rattle.std.specs.List.{Contains}
use Rattle.std.proofs.lemmas.List.{append-nil, length_push}
use Rattle.std.proofs.lemmas.List.Elements.{All-head, All-tail}
use Rattle.spec_automata.specs.ByteExpressions.{ByteExpression}
use Rattle.spec_automata.specs.Positions.{EndsAt}
use Rattle.spec_automata.specs.States.{AreBytes, HasManySets}
use Rattle.lbnf_regex.specs.Steps.{Steps}
use Rattle.lbnf_regex.specs.Sets.{IsSetOf, IsNext}
use Rattle.lbnf_regex.specs.States.{IsReached, state_at, IsStateEntry, IsStateRow, IsTable}
use Rattle.lbnf_regex.proofs.PositionLemmas.{not_empty}
use Rattle.lbnf_regex.proofs.StepLemmas.{AreRuns, Runs, steps}
use Rattle.lbnf_regex.proofs.ExpectingLemmas.{expects_from}
use Rattle.lbnf_regex.proofs.PigeonLemmas.{pigeons}

-- an empty list has no number
none_in : (x : ℕ) → Contains {X = ℕ} [] x → ⊥
none_in x has = absurd (omega (arith, has.1))

-- the state is the start and the text empty, or the state is the set of the text
abbrev pub StandsFor : ByteExpression → List ℕ → List ℕ → Type 0
StandsFor x w s = (s ≡ [] ↔ w ≡ []) × ((p : ℕ) → Contains s p ↔ EndsAt x 0 w p)

-- a spelling from the beginning, with nothing before it
abbrev Begins : List ℕ → Type 0
Begins u = u ≡ []

begun : (x : ByteExpression) (w : List ℕ) (p : ℕ) → Runs x 0 Begins w p → EndsAt x 0 w p
begun x w p r =
    subst (λ (v : List ℕ). EndsAt x 0 v p) (sym (r.2 ∙ ap (λ (z : List ℕ). z ++ r.1) r.3)) r.4

-- the set that follows is that of the text with one byte more
pub next_is : (x : ByteExpression) (w s t : List ℕ) (b : ℕ) → StandsFor x w s → IsNext x s b t → IsSetOf x (w ++ b ∷ []) t
next_is x w s t b stands next =
    let marks : AreRuns x 0 Begins (Contains s) w = λ q low high. (
      λ m. ([], w, refl, refl, (stands.1 q).0 m),
      λ r. (stands.1 q).1 (begun x w q r),
    ) in
    record {
      rising = next.rising;
      are = λ p.
          let one = steps x 0 Begins (Contains s) (s ≡ []) w stands.0 marks b p in (
            λ h. begun x (w ++ b ∷ []) p (one.0 ((next.are p).0 h)),
            λ e. (next.are p).1 (one.1 ([], w ++ b ∷ [], refl, refl, e)),
          );
    }

pub push_some : (v : List ℕ) (b : ℕ) → v ++ b ∷ [] ≢ []
push_some v b e = absurd (omega (arith, ap length e, length_push v b))

-- what spells a text spells each front of it
pub front_ends : (x : ByteExpression) (u v : List ℕ) (p : ℕ) → v ≢ [] → EndsAt x 0 (v ++ u) p → (q : ℕ) × EndsAt x 0 v q
front_ends x [] v p some e = (p, subst (λ (z : List ℕ). EndsAt x 0 z p) (append-nil v) e)
front_ends x (b ∷ u) v p some e =
    let k = front_ends x u (v ++ b ∷ []) p (push_some v b)
    (subst (λ (z : List ℕ). EndsAt x 0 z p) (sym (append_assoc v (b ∷ []) u)) e) in
    let marks : AreRuns x 0 Begins (λ q. EndsAt x 0 v q) v = λ q low high. (
      λ m. ([], v, refl, refl, m),
      λ r. begun x v q r,
    ) in
    let s : Steps x 0 (v ≡ []) (λ q. EndsAt x 0 v q) b k.0 =
    (steps x 0 Begins (λ q. EndsAt x 0 v q) (v ≡ []) v (λ h. h, λ h. h) marks b k.0).1
    ([], v ++ b ∷ [], refl, refl, k.1) in
    elim (expects_from x 0 (v ≡ []) (λ q. EndsAt x 0 v q) s.0 s.1) [
      | inl h ↦ absurd (some h)
      | inr h ↦ (h.0, h.1)
    ]

pub start_stands : (x : ByteExpression) (s : List ℕ) → s ≡ [] → StandsFor x [] s
start_stands x s e = (
  (λ h. refl, λ h. e),
  λ q. (
    λ c. absurd (none_in q (subst (λ (z : List ℕ). Contains z q) e c)),
    λ k. absurd (not_empty x 0 q [] refl k),
  ),
)

pub stands : (x : ByteExpression) (w s : List ℕ) → w ≢ [] → s ≢ [] → IsSetOf x w s → StandsFor x w s
stands x w s w_some s_some is = ((λ h. absurd (s_some h), λ h. absurd (w_some h)), is.are)

-- no spelling begins with a text behind which the byte leads nowhere
pub dead : (x : ByteExpression) (v s : List ℕ) (b : ℕ) (u : List ℕ) (p : ℕ) → StandsFor x v s → IsNext x s b [] →
    EndsAt x 0 (v ++ b ∷ u) p → ⊥
dead x v s b u p is next e =
    let k = front_ends x u (v ++ b ∷ []) p (push_some v b)
    (subst (λ (z : List ℕ). EndsAt x 0 z p) (sym (append_assoc v (b ∷ []) u)) e) in
    let set = next_is x v s [] b is next in
    absurd (none_in k.0 ((set.are k.0).1 k.1))

-- the text has a state
abbrev Found : ByteExpression → List (List ℕ) → List ℕ → Type 0
Found x states w = (i : ℕ) × (0 < i) × (i < length states) × IsSetOf x w (state_at states i)

module _ (x : ByteExpression) (most : ℕ) (states : List (List ℕ)) (rows : List (List (Option ℕ)))
    (table : IsTable x most states rows) where
  by_entry : (b : ℕ) (u v : List ℕ) (i p : ℕ) (e : Option ℕ) → i < length states → StandsFor x v (state_at states i) →
      IsStateEntry x states (state_at states i) b e →
      ((j : ℕ) → j < length states → StandsFor x (v ++ b ∷ []) (state_at states j) → u ≢ [] →
      Found x states ((v ++ b ∷ []) ++ u)) →
      EndsAt x 0 (v ++ b ∷ u) p → Found x states (v ++ b ∷ u)
  by_entry b u v i p None lt is h go e = absurd (dead x v (state_at states i) b u p is h e)
  by_entry b [] v i p (Some j) lt is h go e =
      (j, h.0, h.1, next_is x v (state_at states i) (state_at states j) b is h.2)
  by_entry b (d ∷ u) v i p (Some j) lt is h go e =
      let set = next_is x v (state_at states i) (state_at states j) b is h.2 in
      let reached : IsReached x (state_at states j) = table.are_states.reached j h.0 h.1 in
      subst (Found x states) (append_assoc v (b ∷ []) (d ∷ u))
      (go j h.1 (stands x (v ++ b ∷ []) (state_at states j) (push_some v b) reached.some set) (λ n. cc))

  along : (u v : List ℕ) (i p : ℕ) → i < length states → StandsFor x v (state_at states i) → u ≢ [] → AreBytes u →
      EndsAt x 0 (v ++ u) p → Found x states (v ++ u)
  along [] v i p lt is some bytes e = absurd (some refl)
  along (b ∷ u) v i p lt is some bytes e =
      let row : IsStateRow x states (state_at states i) 256 (slice_index_or rows i []) = table.are_rows.rows_are i lt in
      by_entry b u v i p (slice_index_or (slice_index_or rows i []) b None) lt is
      (row.entries b (All-head (λ c. c < 256) b u bytes))
      (λ j lt_j is_j some_u.
      along u (v ++ b ∷ []) j p lt_j is_j some_u (All-tail (λ c. c < 256) b u bytes)
      (subst (λ (z : List ℕ). EndsAt x 0 z p) (sym (append_assoc v (b ∷ []) u)) e)) e

  -- each text with a spelling has a state
  found : (w : List ℕ) (p : ℕ) → w ≢ [] → AreBytes w → EndsAt x 0 w p → Found x states w
  found w p some bytes e =
      along w [] 0 p table.are_states.some (start_stands x (state_at states 0) table.are_states.start) some bytes e

  -- so there are fewer than so many different sets
  pub few_sets : HasManySets x most → ⊥
  few_sets many =
      let few : most < length states =
      pigeons (λ i j. IsSetOf x (many.text i) (state_at states j)) most (length states) table.are_states.some
      (λ i lt.
      let h = many.leads i lt in
      let e = h.alive in found (many.text i) e.0 h.some h.are_bytes e.1)
      (λ i k j lt lt_k a b.
      many.differ i k lt lt_k (λ p. (λ h. (b.are p).0 ((a.are p).1 h), λ h. (a.are p).0 ((b.are p).1 h)))) in
      absurd (omega (arith, few, table.few))
