-- A text that is not empty is matched exactly where a spelling of it ends at a last position.
use Rattle.std.proofs.Common.{◌≡◌, ℕ, ◌+◌, ◌<◌, ◌≤◌, ◌⊎◌, List, [], ◌∷◌, ◌++◌, length, true, refl, sym, ◌∙◌, ap, inl, inr, arith, append_assoc, subst}
use Rattle.std.proofs.lemmas.List.{append-nil, nil_from_length}
use Rattle.std.proofs.lemmas.Bool.{false≢true, and_parts, and_from, or_cases, or_left, or_right, eqb-true, eq-eqb}
use Rattle.spec_lexing.specs.Kinds.{EndsFirst}
use Rattle.spec_lexing.specs.Matching.{Repeats, none}
use Rattle.spec_automata.specs.ByteExpressions.{ByteExpression, empty, nothing, byte_in, in_turn, either, star, plus, until, MatchesBytes}
use Rattle.spec_automata.specs.Positions.{IsInside, position_count, EndsAt}
use Rattle.spec_automata.proofs.BorderLemmas.{inside_is_closed}
use Rattle.lbnf_regex.specs.Steps.{is_nullable, IsLast}
use Rattle.lbnf_regex.proofs.RepetitionLemmas.{nil_left, nil_right, last_part, one_more, one_before, at_least_one}

-- the positions of an expression are numbered from its first on, and so many
pub ends_within : (x : ByteExpression) (n : ℕ) (w : List ℕ) (p : ℕ) → EndsAt x n w p →
    (n ≤ p) × (p < n + position_count x)
ends_within empty n w p h = absurd h
ends_within nothing n w p h = absurd h
ends_within (byte_in s) n w p h = let e : p ≡ n = h.3 in (omega (arith, e), omega (arith, e))
ends_within (in_turn x y) n w p (inl h) = let a = ends_within x n w p h in (a.0, omega (arith, a.1))
ends_within (in_turn x y) n w p (inr h) =
    let a = ends_within y (n + position_count x) h.1 p h.4 in (omega (arith, a.0), omega (arith, a.1))
ends_within (either x y) n w p (inl h) = let a = ends_within x n w p h in (a.0, omega (arith, a.1))
ends_within (either x y) n w p (inr h) =
    let a = ends_within y (n + position_count x) w p h in (omega (arith, a.0), omega (arith, a.1))
ends_within (star x) n w p h = ends_within x n h.1 p h.4
ends_within (plus x) n w p h = ends_within x n h.1 p h.4
ends_within (until closing) n w p h =
    let e : p ≡ n + h.0 = h.2 in
    let le : h.0 ≤ length closing = h.1.border.within in (omega (arith, e), omega (arith, e, le))

pub last_within : (x : ByteExpression) (n p : ℕ) → IsLast x n p → (n ≤ p) × (p < n + position_count x)
last_within empty n p h = absurd h
last_within nothing n p h = absurd h
last_within (byte_in s) n p h = (omega (arith, h), omega (arith, h))
last_within (in_turn x y) n p (inl h) =
    let a = last_within y (n + position_count x) p h in (omega (arith, a.0), omega (arith, a.1))
last_within (in_turn x y) n p (inr h) = let a = last_within x n p h.1 in (a.0, omega (arith, a.1))
last_within (either x y) n p (inl h) = let a = last_within x n p h in (a.0, omega (arith, a.1))
last_within (either x y) n p (inr h) =
    let a = last_within y (n + position_count x) p h in (omega (arith, a.0), omega (arith, a.1))
last_within (star x) n p h = last_within x n p h
last_within (plus x) n p h = last_within x n p h
last_within (until closing) n p h = (omega (arith, h), omega (arith, h))

-- the closing text stands first at the end of the empty text where it is empty
closes_empty : (closing : List ℕ) → closing ≡ [] → EndsFirst [] closing
closes_empty closing e = record {
  inside = [];
  whole = sym e;
  first = λ before behind h. nil_right closing behind (sym (nil_right before (closing ++ behind) h));
}

-- an expression is nullable exactly where it matches the empty text
pub nullable_from : (x : ByteExpression) → is_nullable x ≡ true → MatchesBytes x []
nullable_from empty h = refl
nullable_from nothing h = absurd (false≢true h)
nullable_from (byte_in s) h = absurd (false≢true h)
nullable_from (in_turn x y) h =
    let both = and_parts (is_nullable x) (is_nullable y) h in
    ([], [], refl, nullable_from x both.0, nullable_from y both.1)
nullable_from (either x y) h = elim (or_cases (is_nullable x) (is_nullable y) h) [
  | inl e ↦ inl (nullable_from x e)
  | inr e ↦ inr (nullable_from y e)
]
nullable_from (star x) h = none [] refl
nullable_from (plus x) h = ([], [], refl, nullable_from x h, none [] refl)
nullable_from (until closing) h = closes_empty closing (nil_from_length closing (eqb-true (length closing) 0 h))

pub nullable_to : (x : ByteExpression) (w : List ℕ) → MatchesBytes x w → w ≡ [] → is_nullable x ≡ true
nullable_to empty w m e = refl
nullable_to nothing w m e = absurd m
nullable_to (byte_in s) w m e = let none : m.0 ∷ [] ≡ [] = sym m.1 ∙ e in absurd (omega (arith, ap length none))
nullable_to (in_turn x y) w m e =
    and_from (is_nullable x) (is_nullable y) (nullable_to x m.0 m.3 (nil_left m.0 m.1 (sym e ∙ m.2)))
    (nullable_to y m.1 m.4 (nil_right m.0 m.1 (sym e ∙ m.2)))
nullable_to (either x y) w (inl m) e = or_left (is_nullable x) (is_nullable y) (nullable_to x w m e)
nullable_to (either x y) w (inr m) e = or_right (is_nullable x) (is_nullable y) (nullable_to y w m e)
nullable_to (star x) w m e = refl
nullable_to (plus x) w m e = nullable_to x m.0 m.3 (nil_left m.0 m.1 (sym e ∙ m.2))
nullable_to (until closing) w m e =
    let closing_nil : closing ≡ [] = nil_right m.inside closing (sym e ∙ m.whole) in
    eq-eqb (length closing) 0 (ap length closing_nil)

-- a spelling of the text ends at a last position
abbrev pub EndsLast : ByteExpression → ℕ → List ℕ → Type 0
EndsLast x n w = (q : ℕ) × EndsAt x n w q × IsLast x n q

pub last_to : (x : ByteExpression) (n : ℕ) (w : List ℕ) → MatchesBytes x w → (w ≡ []) ⊎ EndsLast x n w
last_to empty n w m = inl m
last_to nothing n w m = absurd m
last_to (byte_in s) n w m = inr (n, (m.0, m.1, m.2, refl), refl)
last_to (in_turn x y) n w m = elim (last_to y (n + position_count x) m.1 m.4) [
  | inl e ↦
      let f : w ≡ m.0 = m.2 ∙ ap (λ (z : List ℕ). m.0 ++ z) e ∙ append-nil m.0 in
      elim (last_to x n m.0 m.3) [
        | inl g ↦ inl (f ∙ g)
        | inr h ↦
            let P : List ℕ → Type 0 = λ z. EndsAt x n z h.0 in
            inr (h.0, inl (subst P (sym f) h.1), inr (nullable_to y m.1 m.4 e, h.2))
      ]
  | inr h ↦ inr (h.0, inr (m.0, m.1, m.2, m.3, h.1), inl h.2)
]
last_to (either x y) n w (inl m) = elim (last_to x n w m) [ inl e ↦ inl e | inr h ↦ inr (h.0, inl h.1, inl h.2) ]
last_to (either x y) n w (inr m) = elim (last_to y (n + position_count x) w m) [
  | inl e ↦ inl e
  | inr h ↦ inr (h.0, inr h.1, inr h.2)
]
last_to (star x) n w m = elim (last_part (MatchesBytes x) w m) [
  | inl e ↦ inl e
  | inr k ↦ elim (last_to x n k.1 k.5) [
    | inl e ↦ absurd (k.3 e)
    | inr h ↦ inr (h.0, (k.0, k.1, k.2, k.4, h.1), h.2)
  ]
]
last_to (plus x) n w m = elim (last_part (MatchesBytes x) m.1 m.4) [
  | inl e ↦
      let f : w ≡ m.0 = m.2 ∙ ap (λ (z : List ℕ). m.0 ++ z) e ∙ append-nil m.0 in
      elim (last_to x n m.0 m.3) [
        | inl g ↦ inl (f ∙ g)
        | inr h ↦ inr (h.0, ([], m.0, f, none [] refl, h.1), h.2)
      ]
  | inr k ↦ elim (last_to x n k.1 k.5) [
    | inl e ↦ absurd (k.3 e)
    | inr h ↦ inr (
      h.0,
      (
        m.0 ++ k.0,
        k.1,
        m.2 ∙ ap (λ (z : List ℕ). m.0 ++ z) k.2 ∙ sym (append_assoc m.0 k.0 k.1),
        one_before (MatchesBytes x) m.0 k.0 m.3 k.4,
        h.1,
      ),
      h.2,
    )
  ]
]
last_to (until closing) n w m = by_text w m
  where
    by_text : (w : List ℕ) → EndsFirst w closing → (w ≡ []) ⊎ EndsLast (until closing) n w
    by_text [] m = inl refl
    by_text (b ∷ w) m =
        inr (n + length closing, (length closing, (inside_is_closed closing (b ∷ w) (λ e. cc)).1 m, refl), refl)

pub last_from : (x : ByteExpression) (n : ℕ) (w : List ℕ) (q : ℕ) → EndsAt x n w q → IsLast x n q → MatchesBytes x w
last_from empty n w q h l = absurd h
last_from nothing n w q h l = absurd h
last_from (byte_in s) n w q h l = (h.0, h.1, h.2)
last_from (in_turn x y) n w q (inl h) (inl l) =
    absurd (omega (arith, ends_within x n w q h, last_within y (n + position_count x) q l))
last_from (in_turn x y) n w q (inl h) (inr l) =
    (w, [], sym (append-nil w), last_from x n w q h l.1, nullable_from y l.0)
last_from (in_turn x y) n w q (inr h) (inl l) =
    (h.0, h.1, h.2, h.3, last_from y (n + position_count x) h.1 q h.4 l)
last_from (in_turn x y) n w q (inr h) (inr l) =
    absurd (omega (arith, ends_within y (n + position_count x) h.1 q h.4, last_within x n q l.1))
last_from (either x y) n w q (inl h) (inl l) = inl (last_from x n w q h l)
last_from (either x y) n w q (inl h) (inr l) =
    absurd (omega (arith, ends_within x n w q h, last_within y (n + position_count x) q l))
last_from (either x y) n w q (inr h) (inl l) =
    absurd (omega (arith, ends_within y (n + position_count x) w q h, last_within x n q l))
last_from (either x y) n w q (inr h) (inr l) = inr (last_from y (n + position_count x) w q h l)
last_from (star x) n w q h l =
    subst (Repeats (MatchesBytes x)) (sym h.2) (one_more (MatchesBytes x) h.0 h.1 h.3 (last_from x n h.1 q h.4 l))
last_from (plus x) n w q h l = at_least_one (MatchesBytes x) w h.0 h.1 h.2 h.3 (last_from x n h.1 q h.4 l)
last_from (until closing) n w q h l =
    let at_end : h.0 ≡ length closing = omega (arith, h.2, l) in
    (inside_is_closed closing w h.1.some).0 (subst (λ (z : ℕ). IsInside closing w z) at_end h.1)

-- the empty text has no position
pub not_empty : (x : ByteExpression) (n p : ℕ) (w : List ℕ) → w ≡ [] → EndsAt x n w p → ⊥
not_empty empty n p w f e = e
not_empty nothing n p w f e = e
not_empty (byte_in s) n p w f e =
    let none : e.0 ∷ [] ≡ [] = sym e.1 ∙ f in absurd (omega (arith, ap length none))
not_empty (in_turn x y) n p w f (inl e) = not_empty x n p w f e
not_empty (in_turn x y) n p w f (inr e) =
    not_empty y (n + position_count x) p e.1 (nil_right e.0 e.1 (sym f ∙ e.2)) e.4
not_empty (either x y) n p w f (inl e) = not_empty x n p w f e
not_empty (either x y) n p w f (inr e) = not_empty y (n + position_count x) p w f e
not_empty (star x) n p w f e = not_empty x n p e.1 (nil_right e.0 e.1 (sym f ∙ e.2)) e.4
not_empty (plus x) n p w f e = not_empty x n p e.1 (nil_right e.0 e.1 (sym f ∙ e.2)) e.4
not_empty (until closing) n p w f e = absurd (e.1.some f)
