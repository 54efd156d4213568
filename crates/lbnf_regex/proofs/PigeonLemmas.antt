-- What has numbers of its own below a bound, none of them 0, is fewer than the bound.
use Rattle.std.proofs.Common.{◌≡◌, ℕ, zero, suc, ◌<◌, ◌≤◌, ◌⊎◌, List, [], ◌∷◌, ◌++◌, Bool, true, false, ◌||◌, length, refl, sym, ◌∙◌, inl, inr, arith, eqb, length-append, subst}
use Rattle.std.specs.List.{IsDistinct, list_any}
use Rattle.std.specs.Cmp.{nat_eq_equiv}
use Rattle.std.proofs.lemmas.Map.Keys.{IsDistinct-push}
use Rattle.std.proofs.lemmas.Map.Steps.{length-le_from_distinct_below}
use Rattle.std.proofs.lemmas.Bool.{eqb-true}
use Rattle.std.proofs.lemmas.List.Folds.{list_any-append}

either : (a b : Bool) → (a || b) ≡ true → (a ≡ true) ⊎ (b ≡ true)
either true b h = inl refl
either false b h = inr h

one_only : (b : Bool) → (b || false) ≡ true → b ≡ true
one_only true h = refl
one_only false h = h

not_true : (b : Bool) → (b ≡ true → ⊥) → b ≡ false
not_true true h = absurd (h refl)
not_true false h = refl

module _ (R : ℕ → ℕ → Type 0) (n m : ℕ) (some : 0 < m) (has : (i : ℕ) → i < n → (j : ℕ) × (0 < j) × (j < m) × R i j) (own : (i k j : ℕ) → i < k → k < n → R i j → R k j → ⊥) where
  -- 0 and the numbers of the first k
  Taken : ℕ → List ℕ → Type 0
  Taken k js = (length js ≡ suc k) × IsDistinct eqb js × ((q : ℕ) → list_any (eqb q) js ≡ true → (q ≡ 0) ⊎ ((i : ℕ) × (i < k) × (0 < q) × (q < m) × R i q))

  taken : (k : ℕ) → k ≤ n → (js : List ℕ) × Taken k js
  unfolding Taken IsDistinct
  taken zero le = (0 ∷ [], (refl, IsDistinct-push nat_eq_equiv [] 0 tt refl, λ q h. inl (eqb-true q 0 (one_only (eqb q 0) h))))
  taken (suc k) le =
      let before : (js : List ℕ) × Taken k js = taken k (omega arith) in
      let js : List ℕ = before.0 in
      let t : Taken k js = before.1 in
      let h = has k (omega arith) in
      let fresh : list_any (eqb h.0) js ≡ true → ⊥ = λ e. elim (t.2 h.0 e) [
        | inl z ↦ absurd (omega (arith, z, h.1))
        | inr r ↦ own r.0 k h.0 r.1 (omega arith) r.4 h.3
      ] in (
        js ++ h.0 ∷ [],
        (
          omega (arith, length-append js (h.0 ∷ []), t.0),
          IsDistinct-push nat_eq_equiv js h.0 t.1 (not_true (list_any (eqb h.0) js) fresh),
          λ q e. elim (either (list_any (eqb q) js) (list_any (eqb q) (h.0 ∷ [])) (sym (list_any-append (eqb q) js (h.0 ∷ [])) ∙ e)) [
            | inl u ↦ elim (t.2 q u) [ inl z ↦ inl z | inr r ↦ inr (r.0, omega (arith, r.1), r.2, r.3, r.4) ]
            | inr u ↦
                let same : q ≡ h.0 = eqb-true q h.0 (one_only (eqb q h.0) u) in
                let P : ℕ → Type 0 = λ z. R k z in
                inr (k, omega arith, omega (arith, h.1), omega (arith, h.2), subst P (sym same) h.3)
          ],
        ),
      )

  pub pigeons : n < m
  unfolding Taken
  pigeons =
      let all : (js : List ℕ) × Taken n js = taken n (omega arith) in
      let t : Taken n all.0 = all.1 in
      let few : length all.0 ≤ m = length-le_from_distinct_below all.0 m t.1 (λ q e. elim (t.2 q e) [ inl z ↦ omega (arith, z) | inr r ↦ r.3 ]) in
      omega (arith, t.0)
