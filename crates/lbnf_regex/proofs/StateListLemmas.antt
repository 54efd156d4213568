-- Sets as the keys of a table, each with its positions.
use Rattle.std.proofs.Common.{◌≡◌, ℕ, zero, suc, ◌<◌, ◌≤◌, List, [], ◌∷◌, ◌++◌, length, map, get_or, Bool, false, cond, nat_eq, refl, sym, ap, subst, ◌∙◌, arith, inl, inr, Option, None, Some, ◌||◌}
use Rattle.std.proofs.Common.{IfSome, IfNone}
use Rattle.std.specs.List.{list_any, position, position_or_len}
use Rattle.std.specs.Cmp.Lexicographic.{pointwise, same_text, other_text}
use Rattle.std.proofs.lemmas.Bool.{cases_Bool, cond-false}
use Rattle.std.proofs.lemmas.Grind.{common_steps}
use Rattle.std.proofs.lemmas.List.{length-map, map-append, get_or-map}
use Rattle.std.proofs.lemmas.List.Quantifiers.{position-Some}
use Rattle.std.proofs.lemmas.List.Sums.{fails_before_first}
use Rattle.lbnf_regex.specs.States.{IsNoneOf, state_at}

-- nothing passes before the length
no_place : {X : Type 0} (p : X → Bool) (xs : List X) → position p xs ≡ None → length xs ≤ position_or_len p xs
no_place p xs e = grind (arith, common_steps)

module _ {K : Type 0} (items : K → List ℕ) (set : List ℕ) where
  -- the key has the positions of the set
  abbrev Same : K → Bool
  Same key = pointwise nat_eq set (items key)

  found_in : (keys : List K) (i : ℕ) → position Same keys ≡ Some i →
      (i < length (map items keys)) × (state_at (map items keys) i ≡ set)
  found_in [] i e = absurd (cc)
  found_in (k ∷ keys) i e =
      let h = position-Some Same (k ∷ keys) i k e in (
        omega (arith, h.0, length-map (k ∷ keys) items),
        get_or-map items (k ∷ keys) i k [] h.0 ∙ sym (same_text set (items (get_or (k ∷ keys) i k)) (sym h.1)),
      )

  none_in : (keys : List K) → position Same keys ≡ None → IsNoneOf (map items keys) set
  none_in [] e i lt is = absurd (omega (arith, lt))
  none_in (k ∷ keys) e i lt is =
      let below : i < length (k ∷ keys) = omega (arith, lt, length-map (k ∷ keys) items) in
      let fails = fails_before_first Same (k ∷ keys) i k (omega (arith, below, no_place Same (k ∷ keys) e)) in
      other_text set (items (get_or (k ∷ keys) i k)) (sym fails)
      (sym is ∙ get_or-map items (k ∷ keys) i k [] below)

  -- a set that is none of them has no key
  absent : (keys : List K) → IsNoneOf (map items keys) set → list_any Same keys ≡ false
  absent [] fresh = refl
  absent (k ∷ keys) fresh =
      let first : Same k ≡ false = elim (cases_Bool (Same k)) [
        | inl t ↦ absurd (fresh zero (omega arith) (sym (same_text set (items k) (sym t))))
        | inr f ↦ f
      ] in
      ap (λ (z : Bool). z || list_any Same keys) first ∙ absent keys (λ i lt is. fresh (suc i) (omega (arith, lt)) is)

  module _ (keys : List K) (states : List (List ℕ)) (are : map items keys ≡ states) where
    -- what a look-up tells of the keys is so of the sets
    pub place_some : (found : Option ℕ) → found ≡ position Same keys →
        IfSome found (λ i. (i < length states) × (state_at states i ≡ set))
    place_some None e = tt
    place_some (Some i) e =
        subst (λ (z : List (List ℕ)). (i < length z) × (state_at z i ≡ set)) are (found_in keys i (sym e))

    pub place_none : (found : Option ℕ) → found ≡ position Same keys → IfNone found (IsNoneOf states set)
    place_none None e = subst (λ (z : List (List ℕ)). IsNoneOf z set) are (none_in keys (sym e))
    place_none (Some i) e = tt

module _ {K : Type 0} (items : K → List ℕ) (keys : List K) (states : List (List ℕ)) (are : map items keys ≡ states) where
  -- a new key goes last
  pub key_pushed : (key : K) (more : List K) → IsNoneOf states (items key) →
      more ≡ cond (list_any (λ other. pointwise nat_eq (items key) (items other)) keys) keys (keys ++ key ∷ []) →
      map items more ≡ states ++ items key ∷ []
  key_pushed key more fresh inserted =
      let none = absent items (items key) keys (subst (λ (z : List (List ℕ)). IsNoneOf z (items key)) (sym are) fresh) in
      ap (map items) (inserted ∙ cond-false (list_any (Same items (items key)) keys) keys (keys ++ key ∷ []) none)
      ∙ map-append items keys (key ∷ []) ∙ ap (λ (z : List (List ℕ)). z ++ items key ∷ []) are
