-- One byte more inside a comment.
use Rattle.std.proofs.Common.{◌≡◌, ◌≢◌, ℕ, zero, suc, ◌+◌, ◌-◌, ◌<◌, ◌≤◌, ◌↔◌, List, [], ◌∷◌, ◌++◌, take, drop, length, get_or, nat_eq, IsTrue, Bool, refl, sym, ◌∙◌, ap, inl, inr, arith, append_assoc, length-append, subst}
use Rattle.std.specs.Str.{bytes_eq}
use Rattle.std.specs.Bool.{Decides}
use Rattle.std.proofs.lemmas.Bool.{cases_lt, cases_Bool, both_ways, eqb-true}
use Rattle.std.proofs.lemmas.List.{append-nil, same_from_push, take_more, take_all, length_push, length-take-le, drop_at, drop-take, take-append-drop}
use Rattle.std.proofs.lemmas.Slice.Eq.{bytes_eq-Decides}
use Rattle.spec_lexing.proofs.MatchingTests.{some_cut, HasCut, some_cut-Decides}
use Rattle.spec_automata.specs.Positions.{EndWith, IsBorder, IsLastIn, IsInside}
use Rattle.lbnf_regex.proofs.RepetitionLemmas.{by_last, nil_right}

tail_same : (a b : ℕ) (u v : List ℕ) → a ∷ u ≡ b ∷ v → u ≡ v
tail_same a b u v e = cc

-- of two ends of one text the longer one ends with the shorter one
longer : (u x v y : List ℕ) → u ++ x ≡ v ++ y → length y ≤ length x → EndWith x y
longer [] x v y e le = (v, e)
longer (a ∷ u) x [] y e le = absurd (omega (arith, ap length e, length-append u x))
longer (a ∷ u) x (b ∷ v) y e le = longer u x v y (tail_same a b (u ++ x) (v ++ y) e) le

module _ (e v : List ℕ) (b k : ℕ) (before : IsBorder e v k) where
  -- the ends that are fronts are those of the border with the byte
  ends_to : (i : ℕ) → i ≤ length e → EndWith (v ++ b ∷ []) (take i e) → EndWith (take k e ++ b ∷ []) (take i e)
  ends_to zero le h = (take k e ++ b ∷ [], sym (append-nil (take k e ++ b ∷ [])))
  ends_to (suc i) le h =
      let up : suc i ≡ i + 1 = omega arith in
      let cut : take (suc i) e ≡ take i e ++ get_or e i 0 ∷ [] =
      ap (λ (z : ℕ). take z e) up ∙ take_more e i 0 (omega (arith, le)) in
      let whole : v ++ b ∷ [] ≡ (h.0 ++ take i e) ++ get_or e i 0 ∷ [] =
      h.1 ∙ ap (λ (z : List ℕ). h.0 ++ z) cut ∙ sym (append_assoc h.0 (take i e) (get_or e i 0 ∷ [])) in
      let same : (v ≡ h.0 ++ take i e) × (b ≡ get_or e i 0) =
      same_from_push v (h.0 ++ take i e) b (get_or e i 0) whole in
      let le_k : i ≤ k = before.longest i (omega (arith, le)) (h.0, same.0) in
      let in_border : EndWith (take k e) (take i e) =
      longer (before.ends).0 (take k e) h.0 (take i e) (sym (before.ends).1 ∙ same.0)
      (omega (arith, length-take-le i e (omega (arith, le)), length-take-le k e before.within, le_k)) in (
        in_border.0,
        ap (λ (z : List ℕ). z ++ b ∷ []) in_border.1 ∙ append_assoc in_border.0 (take i e) (b ∷ [])
            ∙ ap (λ (z : ℕ). in_border.0 ++ (take i e ++ z ∷ [])) same.1 ∙ ap (λ (z : List ℕ). in_border.0 ++ z) (sym cut),
      )

  ends_from : (i : ℕ) → EndWith (take k e ++ b ∷ []) (take i e) → EndWith (v ++ b ∷ []) (take i e)
  ends_from i h =
      let u : List ℕ = (before.ends).0 in (
        u ++ h.0,
        ap (λ (z : List ℕ). z ++ b ∷ []) (before.ends).1 ∙ append_assoc u (take k e) (b ∷ [])
            ∙ ap (λ (z : List ℕ). u ++ z) h.1 ∙ sym (append_assoc u h.0 (take i e)),
      )

  border_to : (j : ℕ) → IsBorder e (v ++ b ∷ []) j → IsBorder e (take k e ++ b ∷ []) j
  border_to j h =
      record { within = h.within; ends = ends_to j h.within h.ends; longest = λ i le s. h.longest i le (ends_from i s) }

  border_from : (j : ℕ) → IsBorder e (take k e ++ b ∷ []) j → IsBorder e (v ++ b ∷ []) j
  border_from j h =
      record { within = h.within; ends = ends_from j h.ends; longest = λ i le s. h.longest i le (ends_to i le s) }

module _ (e v : List ℕ) (b : ℕ) where
  -- behind the end of the closing text nothing goes on
  never_to : IsLastIn e (v ++ b ∷ []) → (u t : List ℕ) → v ≡ u ++ (e ++ t) → ⊥
  never_to last u t h =
      let whole : v ++ b ∷ [] ≡ u ++ (e ++ (t ++ b ∷ [])) =
      ap (λ (z : List ℕ). z ++ b ∷ []) h ∙ append_assoc u (e ++ t) (b ∷ [])
      ∙ ap (λ (z : List ℕ). u ++ z) (append_assoc e t (b ∷ [])) in
      absurd (omega (arith, ap length (last u (t ++ b ∷ []) whole), length_push t b))

  never_from : ((u t : List ℕ) → v ≡ u ++ (e ++ t) → ⊥) → IsLastIn e (v ++ b ∷ [])
  never_from never u t h = elim (by_last t) [
    | inl n ↦ n
    | inr k ↦
        let whole : v ++ b ∷ [] ≡ (u ++ (e ++ k.0)) ++ k.1 ∷ [] =
        h ∙ ap (λ (z : List ℕ). u ++ (e ++ z)) k.2
        ∙ ap (λ (z : List ℕ). u ++ z) (sym (append_assoc e k.0 (k.1 ∷ [])))
        ∙ sym (append_assoc u (e ++ k.0) (k.1 ∷ [])) in
        absurd (never u k.0 (same_from_push v (u ++ (e ++ k.0)) b k.1 whole).0)
  ]

-- so much of the closing text goes on by the byte to so much
abbrev pub GoesOn : List ℕ → ℕ → ℕ → ℕ → Type 0
GoesOn e k b j = IsBorder e (take k e ++ b ∷ []) j

-- from inside the comment
pub inside_from : (e v : List ℕ) (b k j : ℕ) → k < length e → IsInside e v k → GoesOn e k b j →
    IsInside e (v ++ b ∷ []) j
inside_from e v b k j lt h goes = record {
  some = λ n. absurd (omega (arith, ap length n, length_push v b));
  last = never_from e v b (λ u t q.
      let t_nil : t ≡ [] = h.last u t q in
      let ends : EndWith v (take (length e) e) = (
        u,
        q ∙ ap (λ (z : List ℕ). u ++ (e ++ z)) t_nil ∙ ap (λ (z : List ℕ). u ++ z) (append-nil e)
            ∙ ap (λ (z : List ℕ). u ++ z) (sym (take_all (length e) e (omega arith))),
      ) in
      absurd (omega (arith, h.border.longest (length e) (omega arith) ends, lt)));
  border = border_from e v b k h.border j goes;
}

pub inside_to : (e v : List ℕ) (b k j : ℕ) → v ≢ [] → IsBorder e v k → IsInside e (v ++ b ∷ []) j →
    (k < length e) × IsInside e v k × GoesOn e k b j
inside_to e v b k j some border h =
    let never : (u t : List ℕ) → v ≡ u ++ (e ++ t) → ⊥ = never_to e v b h.last in
    let lt : k < length e = elim (cases_lt k (length e)) [
      | inl l ↦ l
      | inr l ↦
          absurd
          (never (border.ends).0 []
          ((border.ends).1 ∙ ap (λ (z : List ℕ). (border.ends).0 ++ z) (take_all k e l ∙ sym (append-nil e))))
    ] in
    (lt, record { some = some; last = λ u t q. absurd (never u t q); border = border }, border_to e v b k border j h.border)

-- from the opening text
pub inside_first : (e : List ℕ) (b j : ℕ) → 0 < length e → GoesOn e 0 b j → IsInside e (b ∷ []) j
inside_first e b j lt goes = record {
  some = λ n. cc;
  last = never_from e [] b (λ u t q.
      let empty : e ++ t ≡ [] = nil_right u (e ++ t) q in
      absurd (omega (arith, lt, ap length empty, length-append e t)));
  border = goes;
}

pub first_inside : (e : List ℕ) (b j : ℕ) → IsInside e (b ∷ []) j → (0 < length e) × GoesOn e 0 b j
first_inside e b j h = (closing_some e h.last, h.border)
  where
    closing_some : (e : List ℕ) → IsLastIn e (b ∷ []) → 0 < length e
    closing_some [] last = let none : b ∷ [] ≡ [] = last [] (b ∷ []) refl in absurd (omega (arith, ap length none))
    closing_some (c ∷ e) last = omega arith

-- whether a text ends with these bytes
ends_with : List ℕ → List ℕ → Bool
ends_with w t = some_cut (λ before end. bytes_eq end t) w

ends_with-Decides : (w t : List ℕ) → Decides (ends_with w t) (EndWith w t)
unfolding ends_with
ends_with-Decides w t =
    let cut : Decides (ends_with w t) (HasCut (λ before end. end ≡ t) w) =
    some_cut-Decides (λ before end. end ≡ t) (λ before end. bytes_eq end t) w (λ before end e. bytes_eq-Decides end t) in (
      λ e. let h = cut.0 e in (h.0, h.2 ∙ ap (λ (z : List ℕ). h.0 ++ z) h.3),
      λ h. cut.1 (h.0, t, h.1, refl),
    )

-- each text has a longest end that is a front
pub some_border : (e w : List ℕ) → (k : ℕ) × IsBorder e w k
some_border e w = search_down (length e) (omega arith) (λ i above within _. absurd (omega (arith, above, within)))
  where
    found_at : (m : ℕ) → m ≤ length e → EndWith w (take m e) →
        ((i : ℕ) → m < i → i ≤ length e → EndWith w (take i e) → ⊥) → (k : ℕ) × IsBorder e w k
    found_at m within ends none_above = (
      m,
      record {
        within = within;
        ends = ends;
        longest = λ i le h. elim (cases_lt m i) [ inl above ↦ absurd (none_above i above le h) | inr below ↦ below ];
      },
    )

    search_down : (m : ℕ) → m ≤ length e → ((i : ℕ) → m < i → i ≤ length e → EndWith w (take i e) → ⊥) →
        (k : ℕ) × IsBorder e w k
    search_down zero within none_above = found_at zero within (w, sym (append-nil w)) none_above
    search_down (suc m) within none_above = elim (cases_Bool (ends_with w (take (suc m) e))) [
      | inl t ↦ found_at (suc m) within ((ends_with-Decides w (take (suc m) e)).0 t) none_above
      | inr f ↦ search_down m (omega (arith, within)) (λ i above le h. elim (cases_lt (suc m) i) [
        | inl higher ↦ none_above i higher le h
        | inr lower ↦
            let same : i ≡ suc m = omega (arith, above, lower) in
            both_ways (ends_with w (take (suc m) e)) f
            ((ends_with-Decides w (take (suc m) e)).1 (subst (λ (z : ℕ). EndWith w (take z e)) same h))
      ])
    ]

-- a text has one border
pub one_border : (e w : List ℕ) (j k : ℕ) → IsBorder e w j → IsBorder e w k → j ≡ k
one_border e w j k g h =
    let below : j ≤ k = h.longest j g.within g.ends in
    let above : k ≤ j = g.longest k h.within h.ends in
    omega (arith, below, above)

-- a text with one byte more ends with a longer front exactly where the byte goes on the front of the
-- text that is there
pub front_again : (e : List ℕ) (k b m : ℕ) → k < length e → m ≤ k →
    EndWith (take k e ++ b ∷ []) (take (m + 1) e) ↔ ((get_or e m 0 ≡ b) × (take m e ≡ take m (drop (k - m) e)))
front_again e k b m lt le = (
  λ h.
      let whole : take k e ++ b ∷ [] ≡ (h.0 ++ take m e) ++ get_or e m 0 ∷ [] =
      h.1 ∙ ap (λ (z : List ℕ). h.0 ++ z) cut ∙ sym (append_assoc h.0 (take m e) (get_or e m 0 ∷ [])) in
      let same = same_from_push (take k e) (h.0 ++ take m e) b (get_or e m 0) whole in
      let size : length h.0 ≡ k - m =
      omega
      (arith, le, ap length same.0, length-append h.0 (take m e), length-take-le m e (omega (arith, le, lt)), length-take-le k e (omega (arith, lt))) in (
        sym same.1,
        sym (ap (λ (z : List ℕ). drop (k - m) z) same.0 ∙ drop_at h.0 (take m e) (k - m) size) ∙ behind,
      ),
  λ h. (
    take (k - m) (take k e),
    ap (λ (z : List ℕ). z ++ b ∷ []) (sym (take-append-drop (k - m) (take k e)))
        ∙ append_assoc (take (k - m) (take k e)) (drop (k - m) (take k e)) (b ∷ [])
        ∙ ap (λ (z : List ℕ). take (k - m) (take k e) ++ (z ++ b ∷ [])) (behind ∙ sym h.1)
        ∙ ap (λ (z : ℕ). take (k - m) (take k e) ++ (take m e ++ z ∷ [])) (sym h.0)
        ∙ ap (λ (z : List ℕ). take (k - m) (take k e) ++ z) (sym cut),
  ),
)
  where
    cut : take (m + 1) e ≡ take m e ++ get_or e m 0 ∷ []
    cut = take_more e m 0 (omega (arith, le, lt))

    split : k ≡ (k - m) + m
    split = omega (arith, le)

    behind : drop (k - m) (take k e) ≡ take m (drop (k - m) e)
    behind = ap (λ (z : ℕ). drop (k - m) (take z e)) split ∙ drop-take (k - m) m e

-- behind so much of the closing text and one byte, no front longer than both stands at the end
pub too_long : (e : List ℕ) (k b other : ℕ) → k < length e → k + 1 < other → other ≤ length e →
    EndWith (take k e ++ b ∷ []) (take other e) → ⊥
too_long e k b other lt long le h =
    absurd
    (omega
    (arith, long, ap length h.1, length_push (take k e) b, length-append h.0 (take other e), length-take-le k e (omega (arith, lt)), length-take-le other e le))

module _ (e : List ℕ) (k b l : ℕ) where
  -- the byte is the last of the longer front, which ends the bytes where the rest of it does
  pub goes_on : (same : Bool) → k < length e → 0 < l → l ≤ k + 1 → get_or e (l - 1) 0 ≡ b →
      (same ≡ bytes_eq (take (l - 1) e) (take (k - (k + 1 - l)) (drop (k + 1 - l) e))) →
      IsTrue same ↔ EndWith (take k e ++ b ∷ []) (take l e)
  goes_on same lt some order last is =
      let m : ℕ = l - 1 in
      let up : m + 1 ≡ l = omega (arith, some) in
      let back : k - m ≡ k + 1 - l = omega (arith, some, order) in
      let again = front_again e k b m lt (omega (arith, some, order)) in
      let count : k - (k + 1 - l) ≡ m = omega (arith, some, order) in
      let decides = bytes_eq-Decides (take m e) (take (k - (k + 1 - l)) (drop (k + 1 - l) e)) in (
        λ t.
            let rest : take m e ≡ take m (drop (k - m) e) =
            decides.0 (sym is ∙ t) ∙ ap (λ (z : ℕ). take z (drop (k + 1 - l) e)) count
            ∙ ap (λ (z : ℕ). take m (drop z e)) (sym back) in
            subst (λ (z : ℕ). EndWith (take k e ++ b ∷ []) (take z e)) up (again.1 (last, rest)),
        λ h.
            let both = again.0 (subst (λ (z : ℕ). EndWith (take k e ++ b ∷ []) (take z e)) (sym up) h) in
            is ∙ decides.1 (both.1 ∙ ap (λ (z : ℕ). take m (drop z e)) back
            ∙ ap (λ (z : ℕ). take z (drop (k + 1 - l) e)) (sym count)),
      )

  -- the byte is not the last of the longer front
  pub goes_not_on : k < length e → 0 < l → l ≤ k + 1 → (get_or e (l - 1) 0 ≡ b → ⊥) →
      IsTrue (nat_eq (get_or e (l - 1) 0) b) ↔ EndWith (take k e ++ b ∷ []) (take l e)
  goes_not_on lt some order other =
      let m : ℕ = l - 1 in
      let up : m + 1 ≡ l = omega (arith, some) in
      let again = front_again e k b m lt (omega (arith, some, order)) in (
        λ t. absurd (other (eqb-true (get_or e m 0) b t)),
        λ h.
            absurd (other (again.0 (subst (λ (z : ℕ). EndWith (take k e ++ b ∷ []) (take z e)) (sym up) h)).0),
      )
