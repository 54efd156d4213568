-- What one link more changes.
use Rattle.std.proofs.Common.{◌≡◌, ◌≢◌, ℕ, zero, suc, ◌<◌, ◌↔◌, ◌⊎◌, inl, inr, List, [], ◌∷◌, ◌++◌, Bool, IsTrue, length, slice_set, replicate}
use Rattle.std.proofs.Common.{slice_index_or, sym, ap, ◌∙◌, arith, length-set, get_or-set_other, subst}
use Rattle.std.specs.List.{Contains}
use Rattle.std.proofs.lemmas.Bool.{cases_eq, cases_lt}
use Rattle.std.proofs.lemmas.List.{get_or_default, get_or_past, get_or_append_left, get_or_push, length_push}
use Rattle.std.proofs.lemmas.List.Elements.{Contains-append_left, Contains-push, Contains-push_cases}
use Rattle.std.proofs.lemmas.Grind.{get_or-set_at}
use Rattle.cell_sets.specs.Cells.{AddsSymbol}
use Rattle.number_graph.specs.Graphs.{HasLink, AddsLinks, AddsLink, AreLinksWithin, PushesLinks}

-- the one member of a list of one
pub Contains-one : (x y : ℕ) → Contains (x ∷ []) y → y ≡ x
Contains-one x y (n, within, is) = grind (arith, is, within)

-- what stands at a place of a list is in it
pub stands_at : (xs : List ℕ) (place : ℕ) → place < length xs → Contains xs (slice_index_or xs place 0)
stands_at xs place within =
    (place, within, get_or_default xs place (slice_index_or xs place 0) 0 within)

module _ (links : List (List ℕ)) (from to : ℕ) (old list : List ℕ) (within : from < length links)
    (is_old : old ≡ slice_index_or links from old) (adds : AddsSymbol old list to) where
  -- what the list of the number held before the link
  old_has : (m n : ℕ) → m ≡ from → HasLink links m n ↔ Contains old n
  old_has m n same =
      let is_at : old ≡ slice_index_or links m [] =
      is_old ∙ get_or_default links from old [] within ∙ ap (λ k. slice_index_or links k []) (sym same) in
      let P : List ℕ → Type 0 = λ xs. Contains xs n in
      ((λ has. subst P (sym is_at) has), (λ has. subst P is_at has))

  -- what the list of the number holds with the link
  new_has : (m n : ℕ) → m ≡ from → HasLink (slice_set links from list) m n ↔ Contains list n
  new_has m n same =
      let is_at : slice_index_or (slice_set links from list) m [] ≡ list =
      get_or-set_at links from m list [] same within in
      let P : List ℕ → Type 0 = λ xs. Contains xs n in
      ((λ has. subst P is_at has), (λ has. subst P (sym is_at) has))

  -- any other number keeps its list
  other_list :
      (m : ℕ)
      → m ≢ from → slice_index_or (slice_set links from list) m [] ≡ slice_index_or links m []
  other_list m differ = get_or-set_other links from m list [] differ

  -- a link of the new ones is old, or the one that was added
  new_link :
      (m n : ℕ)
      → HasLink (slice_set links from list) m n → HasLink links m n ⊎ ((m ≡ from) × (n ≡ to))
  new_link m n has = elim (cases_eq m from) [
    | inr differ ↦ let P : List ℕ → Type 0 = λ xs. Contains xs n in inl (subst P (other_list m differ) has)
    | inl same ↦ elim ((adds n).0 ((new_has m n same).0 has)) [
      | inl before ↦ inl ((old_has m n same).1 before)
      | inr added ↦ inr (same, added)
    ]
  ]

  -- an old link, or the one that was added, is a link of the new ones
  kept_link :
      (m n : ℕ)
      → HasLink links m n ⊎ ((m ≡ from) × (n ≡ to)) → HasLink (slice_set links from list) m n
  kept_link m n (inl before) = elim (cases_eq m from) [
    | inr differ ↦ let P : List ℕ → Type 0 = λ xs. Contains xs n in subst P (sym (other_list m differ)) before
    | inl same ↦ (new_has m n same).1 ((adds n).1 (inl ((old_has m n same).0 before)))
  ]
  kept_link m n (inr (same, added)) = (new_has m n same).1 ((adds n).1 (inr added))

  -- one number more in a list is one link more
  pub adds_link : AddsLink links (slice_set links from list) from to
  adds_link = record {
    count = length-set links from list;
    links = λ m n. (new_link m n, kept_link m n);
  }

-- links that are added where one thing holds are added where another does that comes to the same
pub adds_alike :
    (A B : ℕ → ℕ → Type 0) (old new : List (List ℕ))
    → ((m n : ℕ) → A m n ↔ B m n) → AddsLinks A old new → AddsLinks B old new
adds_alike A B old new alike adds = record {
  count = adds.count;
  links = λ m n. (
    (λ has. elim ((adds.links m n).0 has) [
      | inl before ↦ inl before
      | inr added ↦ inr ((alike m n).0 added)
    ]),
    (λ has. (adds.links m n).1 (more m n has)),
  );
}
  where
    more : (m n : ℕ) → HasLink old m n ⊎ B m n → HasLink old m n ⊎ A m n
    more m n (inl before) = inl before
    more m n (inr added) = inr ((alike m n).1 added)

-- links that are added one after the other
pub adds_both :
    (A B : ℕ → ℕ → Type 0) (old middle new : List (List ℕ))
    → AddsLinks A old middle → AddsLinks B middle new
    → AddsLinks (λ m n. A m n ⊎ B m n) old new
adds_both A B old middle new first second = record {
  count = second.count ∙ first.count;
  links = λ m n. (
    (λ has. elim ((second.links m n).0 has) [
      | inr added ↦ inr (inr added)
      | inl before ↦ elim ((first.links m n).0 before) [
        | inl older ↦ inl older
        | inr added ↦ inr (inl added)
      ]
    ]),
    (λ has. (second.links m n).1 (more m n has)),
  );
}
  where
    more : (m n : ℕ) → HasLink old m n ⊎ (A m n ⊎ B m n) → HasLink middle m n ⊎ B m n
    more m n (inl before) = inl ((first.links m n).1 (inl before))
    more m n (inr (inl added)) = inl ((first.links m n).1 (inr added))
    more m n (inr (inr added)) = inr added

-- a link that is added where a test holds is added where what it tests does
pub adds_tested :
    (old new : List (List ℕ)) (from to : ℕ) (Holds : Type 0) (test : Bool)
    → IsTrue test ↔ Holds → AddsLinks (λ m n. IsTrue test × (m ≡ from) × (n ≡ to)) old new
    → AddsLinks (λ m n. Holds × (m ≡ from) × (n ≡ to)) old new
adds_tested old new from to Holds test tests =
    adds_alike (λ m n. IsTrue test × (m ≡ from) × (n ≡ to)) (λ m n. Holds × (m ≡ from) × (n ≡ to)) old new
    (λ m n. ((λ x. (tests.0 x.0, x.1, x.2)), (λ x. (tests.1 x.0, x.1, x.2))))

-- one link more where a test holds
pub adds_where :
    (old new : List (List ℕ)) (from to : ℕ) (test : Bool)
    → IsTrue test → AddsLink old new from to
    → AddsLinks (λ m n. IsTrue test × (m ≡ from) × (n ≡ to)) old new
adds_where old new from to test is =
    adds_alike (λ m n. (m ≡ from) × (n ≡ to)) (λ m n. IsTrue test × (m ≡ from) × (n ≡ to)) old new
    (λ m n. ((λ x. (is, x.0, x.1)), (λ x. (x.1, x.2))))

-- there is no link among numbers without links
pub no_link : (count m n : ℕ) → HasLink (replicate count []) m n → ⊥
no_link zero m n has = omega (arith, has.1)
no_link (suc count) zero n has = omega (arith, has.1)
no_link (suc count) (suc m) n has = no_link count m n has

-- only the numbers within the list are linked
pub link_within : (links : List (List ℕ)) (m n : ℕ) → HasLink links m n → m < length links
link_within links m n has = elim (cases_lt m (length links)) [
  | inl within ↦ within
  | inr past ↦
      let Has : List ℕ → Type 0 = λ xs. Contains xs n in
      let none = subst Has (get_or_past links m [] past) has in
      absurd (omega (arith, none.1))
]

-- one link more to a number below the count keeps all links within it
pub added_within :
    (old new : List (List ℕ)) (from to : ℕ)
    → AddsLink old new from to → to < length old → AreLinksWithin old → AreLinksWithin new
added_within old new from to adds below within m n has = elim ((adds.links m n).0 has) [
  | inl before ↦
      let is : n < length old = within m n before in
      omega (arith, is, adds.count)
  | inr added ↦ omega (arith, added.1, below, adds.count)
]

-- where a list of numbers is put behind the others, one number more is linked to these
pub pushes_links :
    (links : List (List ℕ)) (targets list : List ℕ)
    → ((n : ℕ) → Contains list n ↔ Contains targets n) → PushesLinks links (links ++ list ∷ []) targets
pushes_links links targets list alike = record {
  count = length_push links list;
  links = λ m n. (new_one m n, old_one m n);
}
  where
    new_one :
        (m n : ℕ) → HasLink (links ++ list ∷ []) m n
        → HasLink links m n ⊎ ((m ≡ length links) × Contains targets n)
    new_one m n has = elim (cases_lt m (length links)) [
      | inl within ↦
          let P : List ℕ → Type 0 = λ xs. Contains xs n in
          inl (subst P (get_or_append_left links (list ∷ []) [] m within) has)
      | inr past ↦
          let P : List ℕ → Type 0 = λ xs. Contains xs n in
          let short : m < length (links ++ list ∷ []) = link_within (links ++ list ∷ []) m n has in
          let same : length links ≡ m = omega (arith, short, past, length_push links list) in
          inr (sym same, (alike n).0 (subst P (get_or_push links list [] m same) has))
    ]

    old_one :
        (m n : ℕ) → HasLink links m n ⊎ ((m ≡ length links) × Contains targets n)
        → HasLink (links ++ list ∷ []) m n
    old_one m n (inl has) =
        let P : List ℕ → Type 0 = λ xs. Contains xs n in
        subst P (sym (get_or_append_left links (list ∷ []) [] m (link_within links m n has))) has
    old_one m n (inr (same, has)) =
        let P : List ℕ → Type 0 = λ xs. Contains xs n in
        subst P (sym (get_or_push links list [] m (sym same))) ((alike n).1 has)

-- one number more in a list that has the same members as a front of another
pub alike_more :
    (targets old new : List ℕ) (target : ℕ)
    → ((n : ℕ) → Contains old n ↔ Contains targets n) → AddsSymbol old new target
    → (n : ℕ) → Contains new n ↔ Contains (targets ++ target ∷ []) n
alike_more targets old new target alike adds n = (
  (λ has. elim ((adds n).0 has) [
    | inl before ↦ Contains-append_left targets (target ∷ []) n ((alike n).0 before)
    | inr same ↦ subst (Contains (targets ++ target ∷ [])) (sym same) (Contains-push targets target)
  ]),
  (λ has. elim (Contains-push_cases targets target n has) [
    | inl before ↦ (adds n).1 (inl ((alike n).1 before))
    | inr same ↦ (adds n).1 (inr (sym same))
  ]),
)
