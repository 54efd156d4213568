-- Texts in parts: fronts and rests, and repetitions from their end.
use Rattle.std.proofs.Common.{◌≡◌, ◌≢◌, ℕ, ◌⊎◌, List, [], ◌∷◌, ◌++◌, length, refl, sym, ◌∙◌, ap, inl, inr, arith, append_assoc, subst, length-append}
use Rattle.std.proofs.lemmas.List.{append-nil, nil_from_length}
use Rattle.spec_lexing.specs.Matching.{Then, Repeats, none, more}

-- the last byte of a text
pub by_last : (w : List ℕ) → (w ≡ []) ⊎ ((u : List ℕ) × (b : ℕ) × (w ≡ u ++ b ∷ []))
by_last [] = inl refl
by_last (b ∷ w) = elim (by_last w) [
  | inl e ↦ inr ([], b, ap (λ (z : List ℕ). b ∷ z) e)
  | inr h ↦ inr (b ∷ h.0, h.1, ap (λ (z : List ℕ). b ∷ z) h.2)
]

-- an empty text is empty in its parts
pub nil_left : (u v : List ℕ) → [] ≡ u ++ v → u ≡ []
nil_left u v e = nil_from_length u (omega (arith, ap length e, length-append u v))

pub nil_right : (u v : List ℕ) → [] ≡ u ++ v → v ≡ []
nil_right u v e = nil_from_length v (omega (arith, ap length e, length-append u v))

module _ (L P Q : List ℕ → Type 0) where
  -- three parts, taken together in either way
  pub regroup : (w : List ℕ) → Then (Then L P) Q w → Then L (Then P Q) w
  regroup w h =
      let k = h.3 in
      let e : w ≡ k.0 ++ (k.1 ++ h.1) = h.2 ∙ ap (λ (z : List ℕ). z ++ h.1) k.2 ∙ append_assoc k.0 k.1 h.1 in
      (k.0, k.1 ++ h.1, e, k.3, (k.1, h.1, refl, k.4, h.4))

  pub regroup_back : (w : List ℕ) → Then L (Then P Q) w → Then (Then L P) Q w
  regroup_back w h =
      let k = h.4 in
      let e : w ≡ (h.0 ++ k.0) ++ k.1 = h.2 ∙ ap (λ (z : List ℕ). h.0 ++ z) k.2 ∙ sym (append_assoc h.0 k.0 k.1) in
      (h.0 ++ k.0, k.1, e, (h.0, k.0, refl, h.3, k.3), k.4)

module _ (M : List ℕ → Type 0) where
  -- the last part of a repetition
  pub last_part : (w : List ℕ) → Repeats M w →
      (w ≡ []) ⊎ ((u : List ℕ) × (v : List ℕ) × (w ≡ u ++ v) × (v ≢ []) × Repeats M u × M v)
  last_part w (none _ e) = inl e
  last_part w (more _ front rest e some m r) = elim (last_part rest r) [
    | inl n ↦ inr ([], front, e ∙ ap (λ (z : List ℕ). front ++ z) n ∙ append-nil front, some, none [] refl, m)
    | inr h ↦ inr (
      front ++ h.0,
      h.1,
      e ∙ ap (λ (z : List ℕ). front ++ z) h.2 ∙ sym (append_assoc front h.0 h.1),
      h.3,
      more (front ++ h.0) front h.0 refl some m h.4,
      h.5,
    )
  ]

  one : (v : List ℕ) → M v → Repeats M v
  one [] m = none [] refl
  one (b ∷ v) m = more (b ∷ v) (b ∷ v) [] (sym (append-nil (b ∷ v))) (λ e. cc) m (none [] refl)

  -- one part more, behind the others
  pub one_more : (u v : List ℕ) → Repeats M u → M v → Repeats M (u ++ v)
  one_more u v (none _ e) m = subst (Repeats M) (ap (λ (z : List ℕ). z ++ v) (sym e)) (one v m)
  one_more u v (more _ front rest e some n r) m =
      more (u ++ v) front (rest ++ v) (ap (λ (z : List ℕ). z ++ v) e ∙ append_assoc front rest v) some n
      (one_more rest v r m)

  -- one part more, before the others
  pub one_before : (u v : List ℕ) → M u → Repeats M v → Repeats M (u ++ v)
  one_before [] v m r = r
  one_before (b ∷ u) v m r = more ((b ∷ u) ++ v) (b ∷ u) v refl (λ e. cc) m r

  -- parts and one more are at least one
  pub at_least_one : (w u v : List ℕ) → w ≡ u ++ v → Repeats M u → M v → Then M (Repeats M) w
  at_least_one w u v e (none _ n) m =
      (v, [], e ∙ ap (λ (z : List ℕ). z ++ v) n ∙ sym (append-nil v), m, none [] refl)
  at_least_one w u v e (more _ front rest f some k r) m =
      (front, rest ++ v, e ∙ ap (λ (z : List ℕ). z ++ v) f ∙ append_assoc front rest v, k, one_more rest v r m)
