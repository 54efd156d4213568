-- Lists that grow by what is given: by one giver more, or by the givers below a higher limit.
use Rattle.std.proofs.Common.{◌≡◌, ℕ, ◌+◌, ◌<◌, ◌≤◌, ◌⊎◌, List, [], ◌∷◌, ◌++◌, Some, None, inl, inr, length, slice_get, get_or, take, refl, sym, subst, arith, Contains}
use Rattle.std.proofs.lemmas.Bool.{cases_lt}
use Rattle.std.proofs.lemmas.Option.{slice_get_read}
use Rattle.std.proofs.lemmas.List.{take_more, take_all}
use Rattle.std.proofs.lemmas.List.Elements.{Contains-append_left, Contains-append_right, Contains-append_cases}
use Rattle.cell_sets.specs.Cells.{Adds, IsUnion, IsNextFrom}
use Rattle.binary_form.specs.Products.{OneGives, OneGivesBelow, HasNextItem, SuffixGives, IsNextBelow}
use Rattle.number_graph.proofs.LinkLemmas.{Contains-one}

-- where the next number of a cell is none, there is none below the count
pub none_next :
    (count from : ℕ) (xs : List ℕ) → IsNextFrom xs from None → IsNextBelow count xs from None
none_next count from xs next s has order below =
    let under : s < from = next s has in
    absurd (omega arith)

-- where it is not below the count, no number from there on is
pub past_next :
    (count from n : ℕ) (xs : List ℕ)
    → IsNextFrom xs from (Some n) → count ≤ n → IsNextBelow count xs from None
past_next count from n xs next past s has order below =
    let least : n ≤ s = next.2 s has order in
    absurd (omega arith)

-- a place has one item
same_item :
    {C : Type 0} (cells : List C) (n : ℕ) (a b : C)
    → slice_get cells n ≡ Some a → slice_get cells n ≡ Some b → a ≡ b
same_item cells n a b is_a is_b = cc

-- the union with the closure of a suffix that goes on has what the suffix gives
pub adds_closure :
    {C : Type 0} (symbols : C → List ℕ) (cells : List C) (right : List ℕ) (suffix : ℕ) (closure : C)
    (old new : List ℕ)
    → HasNextItem right suffix → suffix < length cells → closure ≡ get_or cells suffix closure
    → IsUnion old (symbols closure) new → Adds (SuffixGives symbols cells right suffix) old new
adds_closure {C = C} symbols cells right suffix closure old new goes_on within is union n = (to, from)
  where
    at : slice_get cells suffix ≡ Some closure
    at = slice_get_read cells (length cells) suffix closure refl within is

    to : Contains new n → Contains old n ⊎ SuffixGives symbols cells right suffix n
    to has = elim ((union n).0 has) [
      | inl kept ↦ inl kept
      | inr added ↦ inr (goes_on, (closure, at, added))
    ]

    from : Contains old n ⊎ SuffixGives symbols cells right suffix n → Contains new n
    from (inl kept) = (union n).1 (inl kept)
    from (inr given) =
        let inner = given.1 in
        let same = same_item cells suffix inner.0 closure inner.1 at in
        let Has : C → Type 0 = λ c. Contains (symbols c) n in
        (union n).1 (inr (subst Has same inner.2))

-- a suffix whose closure the cell has already adds nothing
pub adds_known :
    {C : Type 0} (symbols : C → List ℕ) (cells : List C) (right : List ℕ) (suffix : ℕ) (closure : C)
    (old : List ℕ)
    → suffix < length cells → closure ≡ get_or cells suffix closure
    → ((n : ℕ) → Contains (symbols closure) n → Contains old n)
    → Adds (SuffixGives symbols cells right suffix) old old
adds_known {C = C} symbols cells right suffix closure old within is known n =
    ((λ has. inl has), back)
  where
    at : slice_get cells suffix ≡ Some closure
    at = slice_get_read cells (length cells) suffix closure refl within is

    back : Contains old n ⊎ SuffixGives symbols cells right suffix n → Contains old n
    back (inl kept) = kept
    back (inr given) =
        let inner = given.1 in
        let same = same_item cells suffix inner.0 closure inner.1 at in
        let Has : C → Type 0 = λ c. Contains (symbols c) n in
        known n (subst Has same inner.2)

module _ (Fits : ℕ → Type 0) (xs : List ℕ) where
  -- none of the numbers before the place fits
  abbrev pub NoneBefore : ℕ → Type 0
  NoneBefore place = (n : ℕ) → Contains (take place xs) n → Fits n → ⊥

  -- where the number at the place does not fit either, none before the next place does
  pub none_more :
      (place : ℕ)
      → place < length xs → NoneBefore place → (Fits (get_or xs place 0) → ⊥)
      → NoneBefore (place + 1)
  none_more place within before last n has fits =
      elim (Contains-append_cases (take place xs) (get_or xs place 0 ∷ []) n (subst Has front has)) [
        | inl earlier ↦ before n earlier fits
        | inr it ↦ last (subst Fits (Contains-one (get_or xs place 0) n it) fits)
      ]
    where
      Has : List ℕ → Type 0
      Has ys = Contains ys n

      front : take (place + 1) xs ≡ take place xs ++ get_or xs place 0 ∷ []
      front = take_more xs place 0 within

  -- where all are before the place, none of them fits
  pub none_of_all :
      (place : ℕ)
      → length xs ≤ place → NoneBefore place → (n : ℕ) × Contains xs n × Fits n → ⊥
  none_of_all place past before found =
      let Has : List ℕ → Type 0 = λ ys. Contains ys found.0 in
      before found.0 (subst Has (sym (take_all place xs past)) found.1) found.2

  -- none of the numbers that are below the limit fits
  abbrev pub NoneBelow : ℕ → Type 0
  NoneBelow limit = (n : ℕ) → n < limit → Contains xs n → Fits n → ⊥

  -- where the next number does not fit either, none up to it does
  pub none_up_to :
      (count from next : ℕ)
      → IsNextBelow count xs from (Some next) → NoneBelow from → (Fits next → ⊥)
      → NoneBelow (next + 1)
  none_up_to count from next is before last n below has fits =
      elim (cases_lt n from) [
        | inl earlier ↦ before n earlier has fits
        | inr later ↦
            let least : next ≤ n = is.3 n has later in
            let same : n ≡ next = omega arith in
            last (subst Fits same fits)
      ]

  -- where there is no next number below the count, none below it fits
  pub none_at_all :
      (count from : ℕ)
      → IsNextBelow count xs from None → NoneBelow from → ((n : ℕ) → Fits n → n < count)
      → (n : ℕ) × Contains xs n × Fits n → ⊥
  none_at_all count from none before within found =
      elim (cases_lt found.0 from) [
        | inl under ↦ before found.0 under found.1 found.2
        | inr not_under ↦ none found.0 found.1 not_under (within found.0 found.2)
      ]

module _ (Gives : ℕ → ℕ → Type 0) where
  -- no giver gives nothing
  pub adds_none : (old : List ℕ) → Adds (OneGives Gives []) old old
  adds_none old n =
      ((λ has. inl has), elim [ inl kept ↦ kept | inr given ↦ absurd (omega (arith, given.1.1)) ])

  -- one giver more gives its numbers too
  pub adds_more :
      (front : List ℕ) (giver : ℕ) (start old new : List ℕ)
      → Adds (OneGives Gives front) start old → Adds (Gives giver) old new
      → Adds (OneGives Gives (front ++ giver ∷ [])) start new
  adds_more front giver start old new before last n = (to, from)
    where
      earlier : Contains old n → Contains start n ⊎ OneGives Gives (front ++ giver ∷ []) n
      earlier has = elim ((before n).0 has) [
        | inl first ↦ inl first
        | inr given ↦
            inr (given.0, Contains-append_left front (giver ∷ []) given.0 given.1, given.2)
      ]

      to : Contains new n → Contains start n ⊎ OneGives Gives (front ++ giver ∷ []) n
      to has = elim ((last n).0 has) [
        | inl kept ↦ earlier kept
        | inr given ↦
            inr (giver, Contains-append_right front (giver ∷ []) giver (0, omega arith, refl), given)
      ]

      from : Contains start n ⊎ OneGives Gives (front ++ giver ∷ []) n → Contains new n
      from (inl first) = (last n).1 (inl ((before n).1 (inl first)))
      from (inr given) = elim (Contains-append_cases front (giver ∷ []) given.0 given.1) [
        | inl in_front ↦ (last n).1 (inl ((before n).1 (inr (given.0, in_front, given.2))))
        | inr is_last ↦
            let same : given.0 ≡ giver = Contains-one giver given.0 is_last in
            let ByGiver : ℕ → Type 0 = λ m. Gives m n in
            (last n).1 (inr (subst ByGiver same given.2))
      ]

  module _ (givers start : List ℕ) where
    -- the list has what it had at the start, and what the givers below the limit give
    abbrev pub IsGivenBelow : ℕ → List ℕ → Type 0
    IsGivenBelow limit xs = Adds (OneGivesBelow Gives givers limit) start xs

    -- below 0 there is no giver
    pub given_start : IsGivenBelow 0 start
    given_start n =
        ((λ has. inl has), elim [ inl kept ↦ kept | inr given ↦ absurd (omega (arith, given.1)) ])

    -- where a giver is the next, the limit goes past it
    pub given_more :
        (count from giver : ℕ) (old new : List ℕ)
        → IsNextBelow count givers from (Some giver) → IsGivenBelow from old
        → Adds (Gives giver) old new → IsGivenBelow (giver + 1) new
    given_more count from giver old new next before last n = (to, back)
      where
        earlier : Contains old n → Contains start n ⊎ OneGivesBelow Gives givers (giver + 1) n
        earlier has = elim ((before n).0 has) [
          | inl first ↦ inl first
          | inr given ↦ inr (given.0, omega (arith, given.1, next.2), given.2, given.3)
        ]

        to : Contains new n → Contains start n ⊎ OneGivesBelow Gives givers (giver + 1) n
        to has = elim ((last n).0 has) [
          | inl kept ↦ earlier kept
          | inr given ↦ inr (giver, omega arith, next.0, given)
        ]

        back : Contains start n ⊎ OneGivesBelow Gives givers (giver + 1) n → Contains new n
        back (inl first) = (last n).1 (inl ((before n).1 (inl first)))
        back (inr given) = elim (cases_lt given.0 from) [
          | inl under ↦ (last n).1 (inl ((before n).1 (inr (given.0, under, given.2, given.3))))
          | inr later ↦
              let least : giver ≤ given.0 = next.3 given.0 given.2 later in
              let same : given.0 ≡ giver = omega (arith, given.1) in
              let ByGiver : ℕ → Type 0 = λ m. Gives m n in
              (last n).1 (inr (subst ByGiver same given.3))
        ]

    -- where there is no next giver below the count of givers, all have given
    pub given_all :
        (count from : ℕ) (xs : List ℕ)
        → IsNextBelow count givers from None → ((giver n : ℕ) → Gives giver n → giver < count)
        → IsGivenBelow from xs → Adds (OneGives Gives givers) start xs
    given_all count from xs none within before n = (to, back)
      where
        to : Contains xs n → Contains start n ⊎ OneGives Gives givers n
        to has = elim ((before n).0 has) [
          | inl first ↦ inl first
          | inr given ↦ inr (given.0, given.2, given.3)
        ]

        under : (m : ℕ) → Contains givers m → m < count → m < from
        under m has below = elim (cases_lt m from) [
          | inl is ↦ is
          | inr not_under ↦ absurd (none m has not_under below)
        ]

        back : Contains start n ⊎ OneGives Gives givers n → Contains xs n
        back (inl first) = (before n).1 (inl first)
        back (inr given) =
            let below : given.0 < from = under given.0 given.1 (within given.0 n given.2) in
            (before n).1 (inr (given.0, below, given.1, given.2))

-- where the cell has the symbols of the part below the limit and the next one, it has those below the next limit
pub has_next :
    (part cell : List ℕ) (count from next : ℕ)
    → IsNextBelow count part from (Some next)
    → ((n : ℕ) → n < from → Contains part n → Contains cell n) → Contains cell next
    → (n : ℕ) → n < next + 1 → Contains part n → Contains cell n
has_next part cell count from next is before here n below has = elim (cases_lt n from) [
  | inl earlier ↦ before n earlier has
  | inr later ↦
      let least : next ≤ n = is.3 n has later in
      let same : next ≡ n = omega arith in
      subst (Contains cell) same here
]

-- where the part has no symbol from the limit on, the cell has all of them
pub has_each :
    (part cell : List ℕ) (count from : ℕ)
    → IsNextBelow count part from None → ((n : ℕ) → Contains part n → n < count)
    → ((n : ℕ) → n < from → Contains part n → Contains cell n)
    → (n : ℕ) → Contains part n → Contains cell n
has_each part cell count from none within before n has = elim (cases_lt n from) [
  | inl under ↦ before n under has
  | inr not_under ↦ absurd (none n has not_under (within n has))
]
