-- Facts that cannot be denied. The proof of one may split on any other fact, also on one that no definition decides.
use Rattle.std.proofs.Common.{◌≡◌, ℕ, zero, suc, ◌<◌, ◌⊎◌, inl, inr, List, [], ◌∷◌, ◌++◌, length, Some, slice_get, refl, sym, ◌∙◌, ap, subst, arith}
use Rattle.std.specs.List.{AllByRecursion}
use Rattle.std.proofs.lemmas.Option.{same_Some}

-- the fact cannot be denied
abbrev pub IsUndeniable : Type 0 → Type 0
IsUndeniable P = (P → ⊥) → ⊥

-- that a fact holds or does not cannot be denied
pub decided : (P : Type 0) → IsUndeniable (P ⊎ (P → ⊥))
decided P denied = denied (inr (λ holds. denied (inl holds)))

-- the first item of the list that the fact does not hold of, with what stands before and behind it
pub record FirstWithout {X : Type 0} (P : X → Type 0) (xs : List X) : Type 0 where
  pub before : List X
  pub item : X
  pub behind : List X
  pub is_item : xs ≡ before ++ (item ∷ behind)
  pub without : P item → ⊥
  pub earlier : AllByRecursion P before

-- the fact holds of each item of the list, or there is a first item that it does not hold of
abbrev pub AllOrFirst : {X : Type 0} → (X → Type 0) → List X → Type 0
AllOrFirst P xs = AllByRecursion P xs ⊎ FirstWithout P xs

module _ {X : Type 0} (P : X → Type 0) where
  -- in front of a list, an item that the fact does not hold of is the first
  first_here : (x : X) (xs : List X) → (P x → ⊥) → AllOrFirst P (x ∷ xs)
  first_here x xs without = inr (record {
    before = [];
    item = x;
    behind = xs;
    is_item = refl;
    without = without;
    earlier = tt;
  })

  -- an item that the fact holds of goes before the others
  one_before : (x : X) (xs : List X) → P x → AllOrFirst P xs → AllOrFirst P (x ∷ xs)
  one_before x xs holds (inl all) = inl (holds, all)
  one_before x xs holds (inr first) = inr (record {
    before = x ∷ first.before;
    item = first.item;
    behind = first.behind;
    is_item = ap (λ ys. x ∷ ys) first.is_item;
    without = first.without;
    earlier = (holds, first.earlier);
  })

  -- that one of the two is so cannot be denied of any list
  pub all_or_first : (xs : List X) → IsUndeniable (AllOrFirst P xs)
  all_or_first [] denied = denied (inl tt)
  all_or_first (x ∷ xs) denied =
      decided (P x) (λ (head : P x ⊎ (P x → ⊥)). elim head [
        | inl holds ↦ all_or_first xs (λ (tail : AllOrFirst P xs).
            denied (one_before x xs holds tail))
        | inr without ↦ denied (first_here x xs without)
      ])

  -- what holds of each item of a front holds at each place before its end
  pub at_each_place :
      (front back : List X) → AllByRecursion P front →
      (k : ℕ) (x : X) → k < length front → slice_get (front ++ back) k ≡ Some x → P x
  at_each_place [] back all k x lt at = absurd (omega arith)
  at_each_place (y ∷ front) back all zero x lt at = subst P (same_Some y x at) all.0
  at_each_place (y ∷ front) back all (suc k) x lt at =
      at_each_place front back all.1 k x (omega arith) at

-- behind a front stands the next item
pub item_behind : {X : Type 0} (front back : List X) (x : X) →
    slice_get (front ++ (x ∷ back)) (length front) ≡ Some x
item_behind [] back x = refl
item_behind (y ∷ front) back x = item_behind front back x

-- where a fact does not hold of each item of a list
module _ {X : Type 0} (P : X → Type 0) (xs : List X) (first : FirstWithout P xs) where
  -- the first such item stands at the place that is the number of those before it
  pub first_place : slice_get xs (length first.before) ≡ Some first.item
  first_place =
      ap (λ ys. slice_get ys (length first.before)) first.is_item
      ∙ item_behind first.before first.behind first.item

  -- the fact holds at each place before it
  pub holds_earlier : (k : ℕ) (x : X) → k < length first.before → slice_get xs k ≡ Some x → P x
  holds_earlier k x lt at =
      let whole : List X = first.before ++ (first.item ∷ first.behind) in
      let there : slice_get whole k ≡ Some x =
      sym (ap (λ ys. slice_get ys k) first.is_item) ∙ at in
      at_each_place P first.before (first.item ∷ first.behind) first.earlier k x lt there
