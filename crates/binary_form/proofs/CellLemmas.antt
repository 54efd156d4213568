-- Cells with just the numbers of what a symbol reaches: closures, cells of tokens, products.
use Rattle.std.proofs.Common.{◌≡◌, ℕ, ◌<◌, ◌⊎◌, ◌↔◌, List, [], ◌∷◌, Some, length, zero, suc, All, refl, sym, ◌∙◌, subst, Contains, slice_index_or, inl, inr, arith}
use Rattle.std.proofs.lemmas.List.Elements.{All-nil, All-cons}
use Rattle.spec_grammar.specs.declared.rule.Symbol.{Symbol}
use Rattle.spec_grammar.specs.declared.rule.Symbol.TheVariants.{Category, Kind}
use Rattle.spec_grammar.specs.declared.rule.Rule.{Rule}
use Rattle.spec_grammar.specs.Grammars.{Grammar, IsSymbolOf, HasOwnSymbols}
use Rattle.binary_form.specs.Symbols.{BinarySymbol, plain, suffix}
use Rattle.binary_form.specs.UnitSteps.{HasItem}
use Rattle.binary_form.specs.BinaryForm.{IsNumberOf, IsReachedNumber, IsClosureOf, IsTokenCell, MakesNumber, IsProductOf, IsProductNumber}
use Rattle.binary_form.specs.NumberSteps.{StepNumber}
use Rattle.number_graph.specs.Graphs.{ReachesBy}
use Rattle.binary_form.proofs.NumberLemmas.{number_is_one}
use Rattle.number_graph.proofs.ReachLemmas.{reaches_within}
use Rattle.binary_form.proofs.ReachLemmas.{reaches_numbers}

-- the number is one of these
abbrev pub IsOneOf : List ℕ → ℕ → Type 0
IsOneOf [] n = ⊥
IsOneOf (m ∷ ms) n = (n ≡ m) ⊎ IsOneOf ms n

-- the number at a place of the list is one of these
has_at :
    (ms : List ℕ) (n k : ℕ) → k < length ms → slice_index_or ms k n ≡ n → IsOneOf ms n
has_at [] n k within is = omega arith
has_at (m ∷ ms) n zero within is = inl (sym is)
has_at (m ∷ ms) n (suc k) within is = inr (has_at ms n k (omega arith) is)

-- what a list has is one of its numbers
pub has_one : (ms : List ℕ) (n : ℕ) → Contains ms n → IsOneOf ms n
has_one ms n has = has_at ms n has.0 has.1 has.2

-- each of its numbers is one that the list has
one_has : (ms : List ℕ) (n : ℕ) → IsOneOf ms n → Contains ms n
one_has [] n one = absurd one
one_has (m ∷ ms) n (inl is) = (0, omega arith, sym is)
one_has (m ∷ ms) n (inr one) =
    let has = one_has ms n one in
    (suc has.0, omega (arith, has.1), has.2)

module _ (g : Grammar) where
  -- the cell has just the numbers of what the symbol reaches
  abbrev pub HasReached : BinarySymbol → List ℕ → Type 0
  HasReached a cell = (n : ℕ) → Contains cell n ↔ IsReachedNumber g a n

  -- each number of the cell is reached by this one
  abbrev pub AreReached : ℕ → List ℕ → Type 0
  AreReached m [] = Unit {0}
  AreReached m (n ∷ ns) = ReachesBy (StepNumber g) m n × AreReached m ns

  -- what is one of the cell's numbers is reached
  one_reached :
      (m : ℕ) (cell : List ℕ) (n : ℕ)
      → AreReached m cell → IsOneOf cell n → ReachesBy (StepNumber g) m n
  one_reached m [] n all one = absurd one
  one_reached m (k ∷ ks) n all (inl is) =
      let Reached : ℕ → Type 0 = λ l. ReachesBy (StepNumber g) m l in
      subst Reached (sym is) all.0
  one_reached m (k ∷ ks) n all (inr one) = one_reached m ks n all.1 one

  -- a cell that no step leaves, and whose numbers are reached, has just what is reached
  pub has_reached :
      (a : BinarySymbol) (m : ℕ) (cell : List ℕ)
      → HasOwnSymbols g → IsNumberOf g a m → IsOneOf cell m
      → ((k l : ℕ) → StepNumber g k l → IsOneOf cell k → IsOneOf cell l) → AreReached m cell
      → HasReached a cell
  has_reached a m cell own is within closed all n =
      let by_number = reaches_numbers g a m n own is in
      let kept = reaches_within (StepNumber g) (IsOneOf cell) m n closed within in (
        (λ has. by_number.1 (one_reached m cell n all (has_one cell n has))),
        (λ reached. one_has cell n (kept (by_number.0 reached))),
      )

  -- the cell of a token has what its kind reaches
  pub token_cell :
      (k : ℕ) (cell : List ℕ)
      → k < length g.lexicon.kinds → HasReached (plain (Kind k)) cell → IsTokenCell g (Some k) cell
  token_cell k cell known reached m = (
    (λ has. (k, refl, known, (reached m).0 has)),
    (λ x.
        let same : x.0 ≡ k = cc in
        (reached m).1 (rw same at x.3)),
  )

  -- the closure of a number has what its symbol reaches
  pub closure_of :
      (a : BinarySymbol) (m : ℕ) (cell : List ℕ)
      → IsNumberOf g a m → HasReached a cell → IsClosureOf g m cell
  closure_of a m cell is reached n = (
    (λ has. (a, is, (reached n).0 has)),
    (λ x.
        let same : x.0 ≡ a = number_is_one g x.0 a m x.1 is in
        (reached n).1 (rw same at x.2)),
  )

  -- the product of an item and the suffix behind it has what the suffix from the item on reaches
  pub product_of :
      (r p : ℕ) (item : Symbol) (behind : List Symbol) (l m : ℕ) (cell : List ℕ)
      → HasItem g.rules r p item behind → IsNumberOf g (plain item) l
      → IsNumberOf g (suffix r (suc p)) m → HasReached (suffix r p) cell
      → IsProductOf g (l ∷ []) (m ∷ []) cell
  product_of r p item behind l m cell has is_left is_right reached n = (made, back)
    where
      made : Contains cell n → IsProductNumber g (l ∷ []) (m ∷ []) n
      made within = (
        l,
        m,
        one_has (l ∷ []) l (inl refl),
        one_has (m ∷ []) m (inl refl),
        record {
          r = r;
          p = p;
          item = item;
          behind = behind;
          has = has;
          is_left = is_left;
          is_right = is_right;
          reaches = (reached n).0 within;
        },
      )

      by_right :
          (k i : ℕ) (makes : MakesNumber g k i n) → IsOneOf (m ∷ []) i → Contains cell n
      by_right k i makes (inl same) =
          let right = suffix makes.r (suc makes.p) in
          let is : IsNumberOf g right m = (makes.is_right.0, makes.is_right.1 ∙ same) in
          let behinds : right ≡ suffix r (suc p) =
          number_is_one g right (suffix r (suc p)) m is is_right in
          let suffixes : suffix makes.r makes.p ≡ suffix r p = cc in
          (reached n).1 (rw suffixes at makes.reaches)
      by_right k i makes (inr none) = absurd none

      back : IsProductNumber g (l ∷ []) (m ∷ []) n → Contains cell n
      back x = by_right x.0 x.1 x.4 (has_one (m ∷ []) x.1 x.3)

  -- no suffix has the number of a category, so a category on the right gives no product
  pub no_product :
      (left : List ℕ) (c : ℕ) → c < length g.categories → IsProductOf g left (c ∷ []) []
  no_product left c is n = ((λ has. absurd (omega (arith, has.1))), back)
    where
      back : IsProductNumber g left (c ∷ []) n → Contains [] n
      back x =
          elim (has_one (c ∷ []) x.1 x.3) [
            | inl same ↦ absurd (omega (arith, x.4.is_right.1, same))
            | inr none ↦ absurd none
          ]

-- the items are symbols of the grammar, each by itself
abbrev pub AreOwn : Grammar → List Symbol → Type 0
AreOwn g [] = Unit {0}
AreOwn g (s ∷ items) = IsSymbolOf g s × AreOwn g items

-- so all of them are
own_items : (g : Grammar) (items : List Symbol) → AreOwn g items → All (IsSymbolOf g) items
own_items g [] own = All-nil (IsSymbolOf g)
own_items g (s ∷ items) own =
    All-cons (IsSymbolOf g) s items own.0 (own_items g items own.1)

-- a rule that is the other has its symbols
pub own_rule :
    (g : Grammar) (x rule : Rule)
    → Some x ≡ Some rule → IsSymbolOf g (Category x.category) → AreOwn g x.items
    → IsSymbolOf g (Category rule.category) × All (IsSymbolOf g) rule.items
own_rule g x rule is category items =
    let same : x ≡ rule = cc in
    subst Own same (category, own_items g x.items items)
  where
    Own : Rule → Type 0
    Own y = IsSymbolOf g (Category y.category) × All (IsSymbolOf g) y.items
