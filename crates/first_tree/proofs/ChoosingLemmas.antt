-- The least rule of a category over a span, and the least cut of a span between items.
use Rattle.std.proofs.Common.{◌≡◌, ◌↔◌, ℕ, ◌+◌, ◌<◌, ◌≤◌, inl, inr, List, [], ◌∷◌, Option, Some, Bool, length, slice_get, drop, suc, refl, sym, ◌∙◌, ap, subst, arith}
use Rattle.std.specs.Prelude.{IsTrue}
use Rattle.std.proofs.lemmas.Option.{slice_get_within}
use Rattle.spec_grammar.specs.declared.rule.Symbol.{Symbol}
use Rattle.spec_grammar.specs.declared.rule.Symbol.TheVariants.{Category, Kind}
use Rattle.spec_grammar.specs.declared.rule.Rule.{Rule}
use Rattle.spec_grammar.specs.Derivation.{Derives, DerivesAll}
use Rattle.spec_grammar.proofs.DerivationLemmas.{derives_within, derives_all_within, kind_derives, category_derives, none_derive, some_derive}
use Rattle.spec_trees.proofs.FirstTreeLemmas.{below_same_above}
use Rattle.binary_form.proofs.ItemLemmas.{drop_at}
use Rattle.first_tree.specs.Searching.{IsKind, AreKinds, CanDerive, EndsOnlyAt, GivesSpan, IsCut, IsLeastCut, IsLeastRule}

module _ (rules : List Rule) (kinds : List (Option ℕ)) where
  -- a rule of the category gives a span where its items derive it
  pub given_by_items :
      (told : Bool) (category i j r : ℕ) (rule : Rule)
      → slice_get rules r ≡ Some rule → rule.category ≡ category
      → IsTrue told ↔ DerivesAll rules kinds rule.items i j
      → IsTrue told ↔ GivesSpan rules kinds category i j r
  given_by_items told category i j r rule is of tells = (
    (λ yes. (rule, is, of, tells.0 yes)),
    (λ x.
        let same : x.0 ≡ rule = cc in
        let P : Rule → Type 0 = λ y. DerivesAll rules kinds y.items i j in
        tells.1 (subst P same x.3)),
  )

  -- a rule of another category gives none
  pub not_given :
      (category i j r : ℕ) (rule : Rule)
      → slice_get rules r ≡ Some rule → (rule.category ≡ category → ⊥)
      → GivesSpan rules kinds category i j r → ⊥
  not_given category i j r rule is other x =
      let same : x.0 ≡ rule = cc in
      let P : Rule → Type 0 = λ y. y.category ≡ category in
      other (subst P same x.2)

  -- some rule gives a span that is derived
  pub some_gives :
      (category i j n : ℕ) → Derives rules kinds (Category category) i j → length rules ≤ n
      → ((r : ℕ) → r < n → GivesSpan rules kinds category i j r → ⊥) → ⊥
  some_gives category i j n d all none =
      let x = (category_derives rules kinds category i j).0 d in
      let within : x.0 < length rules = slice_get_within rules x.0 (x.1) x.2 in
      none x.0 (omega (arith, within, all)) (x.1, x.2, x.3, x.4)

  -- there is one least rule
  pub one_least_rule :
      (category i j r other : ℕ)
      → IsLeastRule rules kinds category i j r → IsLeastRule rules kinds category i j other
      → r ≡ other
  one_least_rule category i j r other is is_other =
      elim (below_same_above r other) [
        | inl below ↦ absurd (is_other.1 r below is.0)
        | inr (inl same) ↦ same
        | inr (inr above) ↦ absurd (is.1 other above is_other.0)
      ]

  -- there is one least cut
  pub one_least_cut :
      (items : List Symbol) (i j k other : ℕ)
      → IsLeastCut rules kinds items i j k → IsLeastCut rules kinds items i j other → k ≡ other
  one_least_cut items i j k other is is_other =
      elim (below_same_above k other) [
        | inl below ↦ absurd (is_other.1 k below is.0)
        | inr (inl same) ↦ same
        | inr (inr above) ↦ absurd (is.1 other above is_other.0)
      ]

  -- a cut stands where the item derives the front and the others the back
  pub cut_by_items :
      (told : Bool) (items : List Symbol) (item : Symbol) (behind : List Symbol) (i k j : ℕ)
      → items ≡ item ∷ behind → Derives rules kinds item i k
      → IsTrue told ↔ DerivesAll rules kinds behind k j
      → IsTrue told ↔ IsCut rules kinds items i k j
  cut_by_items told items item behind i k j is front tells = (
    (λ yes. record {
      item = item;
      behind = behind;
      is = is;
      front = front;
      back = tells.0 yes;
    }),
    (λ x.
        let same : x.behind ≡ behind = cc in
        let P : List Symbol → Type 0 = λ y. DerivesAll rules kinds y k j in
        tells.1 (subst P same x.back)),
  )

  -- there is none where the item does not derive the front
  pub no_cut :
      (items : List Symbol) (item : Symbol) (behind : List Symbol) (i k j : ℕ)
      → items ≡ item ∷ behind → (Derives rules kinds item i k → ⊥)
      → IsCut rules kinds items i k j → ⊥
  no_cut items item behind i k j is not_front x =
      let same : x.item ≡ item = cc in
      let P : Symbol → Type 0 = λ y. Derives rules kinds y i k in
      not_front (subst P same x.front)

  -- no cut is before the span
  pub no_cut_before :
      (items : List Symbol) (i j k : ℕ) → k < i → IsCut rules kinds items i k j → ⊥
  no_cut_before items i j k before x =
      let order = (derives_within rules kinds x.item i k x.front).0 in
      omega (arith, order, before)

  -- items that derive a span have a cut in it
  pub has_cut :
      (items : List Symbol) (p i j : ℕ) → p < length items
      → DerivesAll rules kinds (drop p items) i j
      → (k : ℕ) × (i ≤ k) × (k ≤ j) × IsCut rules kinds (drop p items) i k j
  has_cut items p i j within d =
      let at = drop_at items p within in
      let P : List Symbol → Type 0 = λ xs. DerivesAll rules kinds xs i j in
      let x = (some_derive rules kinds at.0 (drop (suc p) items) i j).0 (subst P at.1 d) in (
        x.0,
        (derives_within rules kinds at.0 i x.0 x.1).0,
        (derives_all_within rules kinds (drop (suc p) items) x.0 j x.2).0,
        record {
          item = at.0;
          behind = drop (suc p) items;
          is = at.1;
          front = x.1;
          back = x.2;
        },
      )

  -- so the end of the span is the least cut where no place before it is one
  pub last_cut :
      (items : List Symbol) (p i j k : ℕ) → p < length items
      → DerivesAll rules kinds (drop p items) i j → j ≤ k
      → ((lesser : ℕ) → lesser < k → IsCut rules kinds (drop p items) i lesser j → ⊥)
      → IsLeastCut rules kinds (drop p items) i j j
  last_cut items p i j k within d past none =
      let x = has_cut items p i j within d in
      elim (below_same_above x.0 j) [
        | inl below ↦ absurd (none x.0 (omega (arith, below, past)) x.3)
        | inr (inl same) ↦ (
          subst (λ m. IsCut rules kinds (drop p items) i m j) same x.3,
          (λ lesser below. none lesser (omega (arith, below, past))),
        )
        | inr (inr above) ↦ absurd (omega (arith, above, x.2))
      ]

  -- items that are kinds derive as many tokens
  kinds_fill :
      (items : List Symbol) (i j : ℕ) → AreKinds items → DerivesAll rules kinds items i j
      → j ≡ i + length items
  kinds_fill [] i j are d = omega (arith, (none_derive rules kinds i j).0 d)
  kinds_fill (s ∷ rest) i j are d =
      let x = (some_derive rules kinds s rest i j).0 d in
      let first : IsKind s = are 0 s refl in
      let D : Symbol → Type 0 = λ y. Derives rules kinds y i x.0 in
      let one = ((kind_derives rules kinds first.0 i x.0).0 (subst D first.1 x.1)).1 in
      let others = kinds_fill rest x.0 j (λ n y is. are (suc n) y is) x.2 in
      omega (arith, one, others)

  module _ (items : List Symbol) (item : Symbol) (behind : List Symbol) (i k j : ℕ) (is : items ≡ item ∷ behind) (cut : IsCut rules kinds items i k j) where
    -- a kind ends behind its token
    pub kind_ends : IsKind item → k ≡ i + 1
    kind_ends kind =
        let same : cut.item ≡ Kind kind.0 = cc in
        let D : Symbol → Type 0 = λ y. Derives rules kinds y i k in
        ((kind_derives rules kinds kind.0 i k).0 (subst D same cut.front)).1

    -- what stands before kinds ends as many tokens before them
    pub ends_before_kinds : AreKinds behind → j ≡ k + length behind
    ends_before_kinds are =
        let same : cut.behind ≡ behind = cc in
        let D : List Symbol → Type 0 = λ y. DerivesAll rules kinds y k j in
        kinds_fill behind k j are (subst D same cut.back)

  -- the only cut is the least
  pub only_cut :
      (items : List Symbol) (p i j place : ℕ) → p < length items
      → DerivesAll rules kinds (drop p items) i j
      → ((k : ℕ) → IsCut rules kinds (drop p items) i k j → k ≡ place)
      → IsLeastCut rules kinds (drop p items) i j place
  only_cut items p i j place within d only =
      let x = has_cut items p i j within d in
      let same : x.0 ≡ place = only x.0 x.3 in (
        subst (λ m. IsCut rules kinds (drop p items) i m j) same x.3,
        (λ lesser below cut. omega (arith, below, only lesser cut)),
      )

  -- what begins with a kind begins with a token of it
  pub begins_with_kind :
      (items : List Symbol) (k i j : ℕ) (behind : List Symbol) → items ≡ Kind k ∷ behind
      → DerivesAll rules kinds items i j → (slice_get kinds i ≡ Some (Some k)) × (i < j)
  begins_with_kind items k i j behind is d =
      let P : List Symbol → Type 0 = λ xs. DerivesAll rules kinds xs i j in
      let x = (some_derive rules kinds (Kind k) behind i j).0 (subst P is d) in
      let token = (kind_derives rules kinds k i x.0).0 x.1 in
      let order = (derives_all_within rules kinds behind x.0 j x.2).0 in
      (token.0, omega (arith, token.1, order))

  -- what stands before kinds leaves them room
  pub behind_fits :
      (item : Symbol) (behind : List Symbol) (i j : ℕ) → AreKinds behind
      → DerivesAll rules kinds (item ∷ behind) i j → length behind ≤ j
  behind_fits item behind i j are d =
      let x = (some_derive rules kinds item behind i j).0 d in
      omega (arith, kinds_fill behind x.0 j are x.2)

  module _ (items behind : List Symbol) (p : ℕ) (item : Symbol) (i j : ℕ) (next : drop p items ≡ item ∷ drop (p + 1) items) (is : behind ≡ drop (p + 1) items) (d : DerivesAll rules kinds (drop p items) i j) where
    own : drop p items ≡ item ∷ behind
    own = next ∙ ap (λ xs. item ∷ xs) (sym is)

    -- the next item and those behind it derive what is left
    pub next_derives : CanDerive (item ∷ behind) i j
    next_derives =
        let P : List Symbol → Type 0 = λ xs. DerivesAll rules kinds xs i j in
        (rules, kinds, subst P own d)

    -- the only place at which it can end is the least cut
    pub known_cut :
        (place : ℕ) → p < length items → EndsOnlyAt (item ∷ behind) i j place
        → IsLeastCut rules kinds (drop p items) i j place
    known_cut place within ends =
        only_cut items p i j place within d (λ k cut.
        let P : List Symbol → Type 0 = λ xs. IsCut rules kinds xs i k j in
        ends rules kinds k (subst P own cut))

  -- the item of a cut derives the front of the span
  pub cut_derives :
      (items behind : List Symbol) (item : Symbol) (i j k : ℕ) → items ≡ item ∷ behind
      → IsLeastCut rules kinds items i j k → Derives rules kinds item i k
  cut_derives items behind item i j k is cut =
      let same : (cut.0).item ≡ item = same_item (cut.0).is is in
      let P : Symbol → Type 0 = λ y. Derives rules kinds y i k in
      subst P same (cut.0).front
    where
      same_item :
          {a b : Symbol} {xs ys : List Symbol} → items ≡ a ∷ xs → items ≡ b ∷ ys → a ≡ b
      same_item e f = cc
