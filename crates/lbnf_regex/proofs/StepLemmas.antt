-- A step from the positions of a text leads to the positions of the text with one byte more.
use Rattle.std.proofs.Common.{◌≡◌, ℕ, ◌+◌, ◌<◌, ◌≤◌, ◌↔◌, List, [], ◌∷◌, ◌++◌, refl, sym, ◌∙◌, ap, inl, inr, arith, append_assoc, subst}
use Rattle.std.proofs.lemmas.List.{append-nil, same_from_push}
use Rattle.std.specs.List.{Contains}
use Rattle.spec_lexing.specs.Matching.{Then, Repeats, none}
use Rattle.spec_automata.specs.ByteExpressions.{ByteExpression, empty, nothing, byte_in, in_turn, either, star, plus, until, MatchesBytes}
use Rattle.spec_automata.specs.Positions.{IsInside, position_count, EndsAt}
use Rattle.lbnf_regex.specs.declared.next_byte.NextByte.{NextByte}
use Rattle.lbnf_regex.specs.declared.next_byte.NextByte.TheVariants.{InSet, InComment}
use Rattle.lbnf_regex.specs.Steps.{EntersBehind, EntersAgain, LeadsTo, Steps}
use Rattle.lbnf_regex.proofs.RepetitionLemmas.{by_last, regroup, regroup_back}
use Rattle.lbnf_regex.proofs.ClosingLemmas.{inside_first, first_inside, inside_from, inside_to, some_border}
use Rattle.lbnf_regex.proofs.PositionLemmas.{ends_within, last_within, nullable_from, nullable_to, last_to, last_from}

-- a text that goes on behind a text of L ends at p
abbrev pub Runs : ByteExpression → ℕ → (List ℕ → Type 0) → List ℕ → ℕ → Type 0
Runs x n L w p = Then L (λ v. EndsAt x n v p) w

-- the marks within the expression are those at which such a text ends
abbrev pub AreRuns : ByteExpression → ℕ → (List ℕ → Type 0) → (ℕ → Type 0) → List ℕ → Type 0
AreRuns x n L M w = (q : ℕ) → n ≤ q → q < n + position_count x → M q ↔ Runs x n L w q

at_end : (L : List ℕ → Type 0) (w u v : List ℕ) → w ≡ u ++ v → v ≡ [] → L u → L w
at_end L w u v e f h = subst L (sym (e ∙ ap (λ (z : List ℕ). u ++ z) f ∙ append-nil u)) h

module _ (x : ByteExpression) (n : ℕ) (L : List ℕ → Type 0) (M : ℕ → Type 0) (w : List ℕ) (Enters : Type 0)
    (enters : Enters ↔ L w) where
  -- what follows the expression is entered
  behind_to : AreRuns x n L M w → EntersBehind x n Enters M → Then L (MatchesBytes x) w
  behind_to marks (inl h) = (w, [], sym (append-nil w), enters.0 h.1, nullable_from x h.0)
  behind_to marks (inr h) =
      let within = last_within x n h.0 h.2 in
      let r : Runs x n L w h.0 = (marks h.0 within.0 within.1).0 h.1 in
      (r.0, r.1, r.2, r.3, last_from x n r.1 h.0 r.4 h.2)

  behind_from : AreRuns x n L M w → Then L (MatchesBytes x) w → EntersBehind x n Enters M
  behind_from marks h = elim (last_to x n h.1 h.4) [
    | inl e ↦ inl (nullable_to x h.1 h.4 e, enters.1 (at_end L w h.0 h.1 h.2 e h.3))
    | inr k ↦
        let within = last_within x n k.0 k.2 in
        inr (k.0, (marks k.0 within.0 within.1).1 (h.0, h.1, h.2, h.3, k.1), k.2)
  ]

  -- a repeated expression is entered again
  again_to : AreRuns (star x) n L M w → EntersAgain x n Enters M → Then L (Repeats (MatchesBytes x)) w
  again_to marks (inl h) = (w, [], sym (append-nil w), enters.0 h, none [] refl)
  again_to marks (inr h) =
      let within = last_within x n h.0 h.2 in
      let r : Runs (star x) n L w h.0 = (marks h.0 within.0 within.1).0 h.1 in
      (r.0, r.1, r.2, r.3, last_from (star x) n r.1 h.0 r.4 h.2)

  again_from : AreRuns (star x) n L M w → Then L (Repeats (MatchesBytes x)) w → EntersAgain x n Enters M
  again_from marks h = elim (last_to (star x) n h.1 h.4) [
    | inl e ↦ inl (enters.1 (at_end L w h.0 h.1 h.2 e h.3))
    | inr k ↦
        let within = last_within x n k.0 k.2 in
        inr (k.0, (marks k.0 within.0 within.1).1 (h.0, h.1, h.2, h.3, k.1), k.2)
  ]

-- one byte more in a set
set_steps : (s : List ℕ) (n : ℕ) (L : List ℕ → Type 0) (M : ℕ → Type 0) (Enters : Type 0) (w : List ℕ) →
    (Enters ↔ L w) → (b p : ℕ) → Steps (byte_in s) n Enters M b p ↔ Runs (byte_in s) n L (w ++ b ∷ []) p
set_steps s n L M Enters w enters b p = (
  λ h.
      let leads : LeadsTo (InSet n s) b p = subst (λ (z : NextByte). LeadsTo z b p) (h.1).1 h.2 in
      (w, b ∷ [], refl, enters.0 (h.1).0, (b, refl, leads.0, leads.1)),
  λ h.
      let k = h.4 in
      let same = same_from_push w h.0 b k.0 (h.2 ∙ ap (λ (z : List ℕ). h.0 ++ z) k.1) in (
        InSet n s,
        (enters.1 (subst L (sym same.0) h.3), refl),
        (subst (Contains s) (sym same.1) k.2, k.3),
      ),
)

module _ (e : List ℕ) (n : ℕ) (L : List ℕ → Type 0) (M : ℕ → Type 0) (Enters : Type 0) (w : List ℕ)
    (enters : Enters ↔ L w) (marks : AreRuns (until e) n L M w) (b p : ℕ) where
  -- from the opening text of a comment, or from inside it
  closing_steps_to : Steps (until e) n Enters M b p → Runs (until e) n L (w ++ b ∷ []) p
  closing_steps_to (next, inl (entered, some, is), leads) =
      let goes : LeadsTo (InComment n e 0) b p = subst (λ (z : NextByte). LeadsTo z b p) is leads in
      (w, b ∷ [], refl, enters.0 entered, (goes.0, inside_first e b goes.0 some goes.1, goes.2))
  closing_steps_to (next, inr (size, marked, small, is), leads) =
      let goes : LeadsTo (InComment n e size) b p = subst (λ (z : NextByte). LeadsTo z b p) is leads in
      let r : Runs (until e) n L w (n + size) = (marks (n + size) (omega arith) (omega (arith, small))).0 marked in
      let at = r.4 in
      let same : at.0 ≡ size = omega (arith, at.2) in
      let inside : IsInside e r.1 size = subst (λ (z : ℕ). IsInside e r.1 z) same at.1 in (
        r.0,
        r.1 ++ b ∷ [],
        ap (λ (z : List ℕ). z ++ b ∷ []) r.2 ∙ append_assoc r.0 r.1 (b ∷ []),
        r.3,
        (goes.0, inside_from e r.1 b size goes.0 small inside goes.1, goes.2),
      )

  -- behind the opening text stand these bytes, and one more
  from_inside : (u v : List ℕ) (j : ℕ) → w ≡ u ++ v → L u → IsInside e (v ++ b ∷ []) j → p ≡ n + j →
      Steps (until e) n Enters M b p
  from_inside u [] j f h inside is =
      let goes = first_inside e b j inside in
      (InComment n e 0, inl (enters.1 (at_end L w u [] f refl h), goes.0, refl), (j, goes.1, is))
  from_inside u (c ∷ v) j f h inside is =
      let border = some_border e (c ∷ v) in
      let goes = inside_to e (c ∷ v) b border.0 j (λ n. cc) border.1 inside in
      let marked : M (n + border.0) =
      (marks (n + border.0) (omega arith) (omega (arith, goes.0))).1
      (u, c ∷ v, f, h, (border.0, goes.1, refl)) in
      (InComment n e border.0, inr (border.0, marked, goes.0, refl), (j, goes.2, is))

  closing_steps_from : Runs (until e) n L (w ++ b ∷ []) p → Steps (until e) n Enters M b p
  closing_steps_from r =
      let at = r.4 in
      elim (by_last r.1) [
        | inl empty_rest ↦ absurd ((at.1).some empty_rest)
        | inr k ↦
            let same = same_from_push w (r.0 ++ k.0) b k.1
            (r.2 ∙ ap (λ (z : List ℕ). r.0 ++ z) k.2 ∙ sym (append_assoc r.0 k.0 (k.1 ∷ []))) in
            let inside : IsInside e (k.0 ++ b ∷ []) at.0 =
            subst (λ (z : List ℕ). IsInside e z at.0) (k.2 ∙ ap (λ (z : ℕ). k.0 ++ z ∷ []) (sym same.1)) at.1 in
            from_inside r.0 k.0 at.0 same.0 r.3 inside at.2
      ]

pub steps : (x : ByteExpression) (n : ℕ) (L : List ℕ → Type 0) (M : ℕ → Type 0) (Enters : Type 0) (w : List ℕ) →
    (Enters ↔ L w) → AreRuns x n L M w → (b p : ℕ) → Steps x n Enters M b p ↔ Runs x n L (w ++ b ∷ []) p
steps empty n L M Enters w enters marks b p = (λ h. absurd h.1, λ h. absurd h.4)
steps nothing n L M Enters w enters marks b p = (λ h. absurd h.1, λ h. absurd h.4)
steps (byte_in s) n L M Enters w enters marks b p = set_steps s n L M Enters w enters b p
steps (in_turn x y) n L M Enters w enters marks b p =
    let L' : List ℕ → Type 0 = Then L (MatchesBytes x) in
    let E' : Type 0 = EntersBehind x n Enters M in
    let marks_x : AreRuns x n L M w = λ q low high. (
      λ m. let r : Runs (in_turn x y) n L w q = (marks q low (omega (arith, high))).0 m in elim r.4 [
        | inl e ↦ (r.0, r.1, r.2, r.3, e)
        | inr e ↦ absurd (omega (arith, high, ends_within y (n + position_count x) e.1 q e.4))
      ],
      λ r. (marks q low (omega (arith, high))).1 (r.0, r.1, r.2, r.3, inl r.4),
    ) in
    let marks_y : AreRuns y (n + position_count x) L' M w = λ q low high. (
      λ m. let r : Runs (in_turn x y) n L w q = (marks q (omega (arith, low)) (omega (arith, high))).0 m in elim r.4 [
        | inl e ↦ absurd (omega (arith, low, ends_within x n r.1 q e))
        | inr e ↦
            regroup_back L (MatchesBytes x) (λ v. EndsAt y (n + position_count x) v q) w (r.0, r.1, r.2, r.3, e)
      ],
      λ r.
          let k = regroup L (MatchesBytes x) (λ v. EndsAt y (n + position_count x) v q) w r in
          (marks q (omega (arith, low)) (omega (arith, high))).1 (k.0, k.1, k.2, k.3, inr k.4),
    ) in
    let enters_y : E' ↔ L' w = (behind_to x n L M w Enters enters marks_x, behind_from x n L M w Enters enters marks_x) in
    let in_x = steps x n L M Enters w enters marks_x b p in
    let in_y = steps y (n + position_count x) L' M E' w enters_y marks_y b p in (
      λ h. elim h.1 [
        | inl s ↦ let r = in_x.0 (h.0, s, h.2) in (r.0, r.1, r.2, r.3, inl r.4)
        | inr s ↦
            let k = regroup L (MatchesBytes x) (λ v. EndsAt y (n + position_count x) v p) (w ++ b ∷ []) (in_y.0 (h.0, s, h.2)) in
            (k.0, k.1, k.2, k.3, inr k.4)
      ],
      λ r. elim r.4 [
        | inl e ↦ let h = in_x.1 (r.0, r.1, r.2, r.3, e) in (h.0, inl h.1, h.2)
        | inr e ↦
            let h = in_y.1
            (regroup_back L (MatchesBytes x) (λ v. EndsAt y (n + position_count x) v p) (w ++ b ∷ []) (r.0, r.1, r.2, r.3, e)) in
            (h.0, inr h.1, h.2)
      ],
    )
steps (either x y) n L M Enters w enters marks b p =
    let marks_x : AreRuns x n L M w = λ q low high. (
      λ m. let r : Runs (either x y) n L w q = (marks q low (omega (arith, high))).0 m in elim r.4 [
        | inl e ↦ (r.0, r.1, r.2, r.3, e)
        | inr e ↦ absurd (omega (arith, high, ends_within y (n + position_count x) r.1 q e))
      ],
      λ r. (marks q low (omega (arith, high))).1 (r.0, r.1, r.2, r.3, inl r.4),
    ) in
    let marks_y : AreRuns y (n + position_count x) L M w = λ q low high. (
      λ m. let r : Runs (either x y) n L w q = (marks q (omega (arith, low)) (omega (arith, high))).0 m in elim r.4 [
        | inl e ↦ absurd (omega (arith, low, ends_within x n r.1 q e))
        | inr e ↦ (r.0, r.1, r.2, r.3, e)
      ],
      λ r. (marks q (omega (arith, low)) (omega (arith, high))).1 (r.0, r.1, r.2, r.3, inr r.4),
    ) in
    let in_x = steps x n L M Enters w enters marks_x b p in
    let in_y = steps y (n + position_count x) L M Enters w enters marks_y b p in (
      λ h. elim h.1 [
        | inl s ↦ let r = in_x.0 (h.0, s, h.2) in (r.0, r.1, r.2, r.3, inl r.4)
        | inr s ↦ let r = in_y.0 (h.0, s, h.2) in (r.0, r.1, r.2, r.3, inr r.4)
      ],
      λ r. elim r.4 [
        | inl e ↦ let h = in_x.1 (r.0, r.1, r.2, r.3, e) in (h.0, inl h.1, h.2)
        | inr e ↦ let h = in_y.1 (r.0, r.1, r.2, r.3, e) in (h.0, inr h.1, h.2)
      ],
    )
steps (star x) n L M Enters w enters marks b p =
    let L' : List ℕ → Type 0 = Then L (Repeats (MatchesBytes x)) in
    let E' : Type 0 = EntersAgain x n Enters M in
    let marks_x : AreRuns x n L' M w = λ q low high. (
      λ m. regroup_back L (Repeats (MatchesBytes x)) (λ v. EndsAt x n v q) w ((marks q low high).0 m),
      λ r. (marks q low high).1 (regroup L (Repeats (MatchesBytes x)) (λ v. EndsAt x n v q) w r),
    ) in
    let enters_x : E' ↔ L' w = (again_to x n L M w Enters enters marks, again_from x n L M w Enters enters marks) in
    let in_x = steps x n L' M E' w enters_x marks_x b p in (
      λ h. regroup L (Repeats (MatchesBytes x)) (λ v. EndsAt x n v p) (w ++ b ∷ []) (in_x.0 h),
      λ r. in_x.1 (regroup_back L (Repeats (MatchesBytes x)) (λ v. EndsAt x n v p) (w ++ b ∷ []) r),
    )
steps (plus x) n L M Enters w enters marks b p =
    let L' : List ℕ → Type 0 = Then L (Repeats (MatchesBytes x)) in
    let E' : Type 0 = EntersAgain x n Enters M in
    let marks_x : AreRuns x n L' M w = λ q low high. (
      λ m. regroup_back L (Repeats (MatchesBytes x)) (λ v. EndsAt x n v q) w ((marks q low high).0 m),
      λ r. (marks q low high).1 (regroup L (Repeats (MatchesBytes x)) (λ v. EndsAt x n v q) w r),
    ) in
    let enters_x : E' ↔ L' w = (again_to x n L M w Enters enters marks, again_from x n L M w Enters enters marks) in
    let in_x = steps x n L' M E' w enters_x marks_x b p in (
      λ h. regroup L (Repeats (MatchesBytes x)) (λ v. EndsAt x n v p) (w ++ b ∷ []) (in_x.0 h),
      λ r. in_x.1 (regroup_back L (Repeats (MatchesBytes x)) (λ v. EndsAt x n v p) (w ++ b ∷ []) r),
    )
steps (until e) n L M Enters w enters marks b p =
    (closing_steps_to e n L M Enters w enters marks b p, closing_steps_from e n L M Enters w enters marks b p)
