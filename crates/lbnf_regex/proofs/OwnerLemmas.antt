-- The expressions of a list by their positions, and what those of marked positions expect.
use Rattle.std.proofs.Common.{◌≡◌, ℕ, zero, suc, ◌+◌, ◌-◌, ◌<◌, ◌≤◌, ◌↔◌, List, [], ◌∷◌, ◌++◌, length, map, replicate, get_or, Option, Some, None, true, false, nat_lt, IsTrue, refl, sym, ◌∙◌, ap, inl, inr, arith, subst, length-append}
use Rattle.std.specs.List.{Contains, slice_get}
use Rattle.std.proofs.lemmas.Bool.{false≢true, cases_lt, ltb-true}
use Rattle.std.proofs.lemmas.List.{get_or_append_left, get_or-append-add, get_or-replicate, get_or-map, length-map, length-replicate}
use Rattle.std.proofs.lemmas.List.Elements.{Contains-append_left, Contains-push, Contains-push_cases}
use Rattle.std.proofs.lemmas.Option.{slice_get_within, slice_get-get_or, get_or_from_slice_get, slice_get_read, same_Some}
use Rattle.spec_automata.specs.ByteExpressions.{ByteExpression, empty}
use Rattle.spec_automata.specs.Encoding.{one_of_these}
use Rattle.spec_automata.specs.Positions.{position_count}
use Rattle.lbnf_regex.specs.declared.next_byte.NextByte.{NextByte}
use Rattle.lbnf_regex.specs.declared.owner.Owner.{Owner}
use Rattle.lbnf_regex.specs.declared.pattern.Pattern.{Pattern}
use Rattle.lbnf_regex.specs.Owners.{owner_of, owners_from, ExpectsInPlace, ExpectsOwned, AddsOwned, AddsOwnedAt, HasAllOf}
use Rattle.lbnf_regex.specs.Patterns.{bytes_of_pattern}
use Rattle.lbnf_regex.specs.Steps.{Expects, AddsExpected}
use Rattle.lbnf_regex.proofs.ExpectingLemmas.{expects_from}

-- what one of a list expects is what the one at some place does
in_place_to : (xs : List ByteExpression) (n : ℕ) (E : Type 0) (M : ℕ → Type 0) (next : NextByte) →
    Expects (one_of_these xs) n E M next → (place : ℕ) × ExpectsInPlace xs n E M place next
in_place_to [] n E M next h = absurd h
in_place_to (x ∷ xs) n E M next (inl h) = (zero, h)
in_place_to (x ∷ xs) n E M next (inr h) =
    let rest = in_place_to xs (n + position_count x) E M next h in (suc rest.0, rest.1)

in_place_from : (xs : List ByteExpression) (n : ℕ) (E : Type 0) (M : ℕ → Type 0) (next : NextByte) (place : ℕ) →
    ExpectsInPlace xs n E M place next → Expects (one_of_these xs) n E M next
in_place_from [] n E M next place h = absurd h
in_place_from (x ∷ xs) n E M next zero h = inl h
in_place_from (x ∷ xs) n E M next (suc place) h = inr (in_place_from xs (n + position_count x) E M next place h)

-- an owner's place and first position are those of the expression in that place
pub record IsOwner (xs : List ByteExpression) (n base : ℕ) (M : ℕ → Type 0) (o : Owner) : Type 0 where
  pub place : ℕ
  pub is : o.place ≡ base + place
  pub within : place < length xs
  pub room : o.first + position_count (get_or xs place empty) ≤ n + position_count (one_of_these xs)
  pub same : (next : NextByte) →
      ExpectsInPlace xs n (IsTrue false) M place next ↔ Expects (get_or xs place empty) o.first (IsTrue false) M next

-- owners behind the first ones
at_behind : (count q : ℕ) (own d : Owner) (owners : List Owner) → count ≤ q →
    get_or (replicate count own ++ owners) q d ≡ get_or owners (q - count) d
at_behind count q own d owners le =
    let len : length (replicate count own) ≡ count = length-replicate count own in
    let cut : q ≡ length (replicate count own) + (q - count) = omega (arith, len, le) in
    ap (λ (z : ℕ). get_or (replicate count own ++ owners) z d) cut
    ∙ get_or-append-add (replicate count own) owners (q - count) d

at_front : (count q : ℕ) (own d : Owner) (owners : List Owner) → q < count →
    get_or (replicate count own ++ owners) q d ≡ own
at_front count q own d owners lt =
    let len : length (replicate count own) ≡ count = length-replicate count own in
    get_or_append_left (replicate count own) owners d q (omega (arith, len, lt)) ∙ get_or-replicate count q own d lt

owner_count : (xs : List ByteExpression) (base n : ℕ) → length (owners_from xs base n) ≡ position_count (one_of_these xs)
owner_count [] base n = refl
owner_count (x ∷ xs) base n =
    let own = length-replicate (position_count x) (owner_of base n) in
    let rest = owner_count xs (base + 1) (n + position_count x) in
    let both = length-append (replicate (position_count x) (owner_of base n)) (owners_from xs (base + 1) (n + position_count x)) in
    omega (arith, own, rest, both)

is_owner : (xs : List ByteExpression) (base n q : ℕ) (M : ℕ → Type 0) (d : Owner) → q < position_count (one_of_these xs) →
    IsOwner xs n base M (get_or (owners_from xs base n) q d)
is_owner [] base n q M d lt = absurd (omega (arith, lt))
is_owner (x ∷ xs) base n q M d lt =
    let count : ℕ = position_count x in
    let rest : List Owner = owners_from xs (base + 1) (n + count) in
    elim (cases_lt q count) [
      | inl front ↦
          subst (IsOwner (x ∷ xs) n base M) (sym (at_front count q (owner_of base n) d rest front)) (record {
            place = zero;
            is = let e : base ≡ base + 0 = omega arith in e;
            within = omega arith;
            room = let e : n + count ≤ n + (count + position_count (one_of_these xs)) = omega arith in e;
            same = λ next. (λ h. h, λ h. h);
          })
      | inr behind ↦
          let o : Owner = get_or rest (q - count) d in
          let k : IsOwner xs (n + count) (base + 1) M o =
          is_owner xs (base + 1) (n + count) (q - count) M d (omega (arith, lt, behind)) in
          let at : o.place ≡ base + 1 + k.place = k.is in
          let below : k.place < length xs = k.within in
          let le : o.first + position_count (get_or xs k.place empty) ≤ n + count + position_count (one_of_these xs) = k.room in
          subst (IsOwner (x ∷ xs) n base M) (sym (at_behind count q (owner_of base n) d rest behind)) (record {
            place = suc k.place;
            is = let e : o.place ≡ base + suc k.place = omega (arith, at) in e;
            within = omega (arith, below);
            room =
                let e : o.first + position_count (get_or xs k.place empty) ≤ n + (count + position_count (one_of_these xs)) =
                omega (arith, le) in
                e;
            same = λ next. k.same next;
          })
    ]

-- what is expected where none is entered comes from a mark that the expression owns
owned : (xs : List ByteExpression) (base n place : ℕ) (M : ℕ → Type 0) (next : NextByte) (d : Owner) →
    ExpectsInPlace xs n (IsTrue false) M place next →
    (q : ℕ) × M q × (n ≤ q) × (q < n + position_count (one_of_these xs))
    × ((get_or (owners_from xs base n) (q - n) d).place ≡ base + place)
owned [] base n place M next d h = absurd h
owned (x ∷ xs) base n zero M next d h = elim (expects_from x n (IsTrue false) M next h) [
  | inl e ↦ absurd (false≢true e)
  | inr q ↦
      let rest : List Owner = owners_from xs (base + 1) (n + position_count x) in
      let lt : q.0 - n < position_count x = omega (arith, q.2, q.3) in
      let own : base ≡ base + 0 = omega arith in (
        q.0,
        q.1,
        q.2,
        omega (arith, q.3),
        ap (λ (o : Owner). o.place) (at_front (position_count x) (q.0 - n) (owner_of base n) d rest lt) ∙ own,
      )
]
owned (x ∷ xs) base n (suc place) M next d h =
    let count : ℕ = position_count x in
    let rest : List Owner = owners_from xs (base + 1) (n + count) in
    let k = owned xs (base + 1) (n + count) place M next d h in
    let cut : k.0 - n - count ≡ k.0 - (n + count) = omega (arith, k.2) in
    let is : (get_or rest (k.0 - (n + count)) d).place ≡ base + 1 + place = k.4 in
    let up : (get_or rest (k.0 - (n + count)) d).place ≡ base + suc place = omega (arith, is) in (
      k.0,
      k.1,
      omega (arith, k.2),
      omega (arith, k.3),
      ap (λ (o : Owner). o.place) (at_behind count (k.0 - n) (owner_of base n) d rest (omega (arith, k.2)))
          ∙ ap (λ (z : ℕ). (get_or rest z d).place) cut ∙ up,
    )

-- all that is expected where none is entered is expected by the owners of the marks
pub adds_owned : (xs : List ByteExpression) (marks : List ℕ) (old new : List NextByte) →
    AddsOwned xs (Contains marks) marks old new →
    AddsExpected (one_of_these xs) 0 (IsTrue false) (Contains marks) old new
adds_owned xs marks old new adds next = (
  λ h. elim ((adds next).0 h) [
    | inl o ↦ inl o
    | inr k ↦ inr (in_place_from xs 0 (IsTrue false) (Contains marks) next k.2.owner.place k.2.expects)
  ],
  λ h. elim h [
    | inl o ↦ (adds next).1 (inl o)
    | inr k ↦
        let d : Owner = owner_of 0 0 in
        let at = in_place_to xs 0 (IsTrue false) (Contains marks) next k in
        let q = owned xs 0 0 at.0 (Contains marks) next d at.1 in
        let o : Owner = get_or (owners_from xs 0 0) q.0 d in
        let low : q.0 - 0 ≡ q.0 = omega arith in
        let none_before : 0 + at.0 ≡ at.0 = omega arith in
        let e : (get_or (owners_from xs 0 0) (q.0 - 0) d).place ≡ 0 + at.0 = q.4 in
        let is : o.place ≡ at.0 =
        ap (λ (z : ℕ). (get_or (owners_from xs 0 0) z d).place) (sym low) ∙ e ∙ none_before in
        let lt : q.0 < length (owners_from xs 0 0) = omega (arith, q.3, owner_count xs 0 0) in
        (adds next).1
        (inr (
          q.0,
          q.1,
          record {
            owner = o;
            is = slice_get-get_or (owners_from xs 0 0) q.0 d lt;
            expects = subst (λ (z : ℕ). ExpectsInPlace xs 0 (IsTrue false) (Contains marks) z next) (sym is) at.1;
          },
        ))
  ],
)

-- the owner that is found at a position
pub owner_found : (owners table : List Owner) (q : ℕ) (o : Owner) → owners ≡ table → true ≡ nat_lt q (length owners) →
    o ≡ get_or owners q o → slice_get table q ≡ Some o
owner_found owners table q o same within is =
    subst (λ (os : List Owner). slice_get os q ≡ Some o) same
    (slice_get_read owners (length owners) q o refl (ltb-true q (length owners) (sym within)) is)

-- the owner of a position in code, and the kind in its place
module _ (kinds : List Pattern) (q : ℕ) (o : Owner) (M : ℕ → Type 0)
    (at : slice_get (owners_from (map bytes_of_pattern kinds) 0 0) q ≡ Some o) where
  in_code : IsOwner (map bytes_of_pattern kinds) 0 0 M o
  in_code =
      let xs : List ByteExpression = map bytes_of_pattern kinds in
      let lt = slice_get_within (owners_from xs 0 0) q o at in
      subst (IsOwner xs 0 0 M) (get_or_from_slice_get (owners_from xs 0 0) q o (owner_of 0 0) at)
      (is_owner xs 0 0 q M (owner_of 0 0) (omega (arith, lt, owner_count xs 0 0)))

  same_place : in_code.place ≡ o.place
  same_place = let e : o.place ≡ 0 + in_code.place = in_code.is in omega (arith, e)

  pub owner_within : o.place < length kinds
  owner_within =
      let lt : in_code.place < length (map bytes_of_pattern kinds) = in_code.within in
      omega (arith, same_place, lt, length-map kinds bytes_of_pattern)

  module _ (kind : Pattern) (is : kind ≡ get_or kinds o.place kind) where
    this_kind : get_or (map bytes_of_pattern kinds) in_code.place empty ≡ bytes_of_pattern kind
    this_kind =
        ap (λ (z : ℕ). get_or (map bytes_of_pattern kinds) z empty) same_place
        ∙ get_or-map bytes_of_pattern kinds o.place kind empty owner_within ∙ ap bytes_of_pattern (sym is)

    pub owner_room : o.first + position_count (bytes_of_pattern kind)
        ≤ position_count (one_of_these (map bytes_of_pattern kinds))
    owner_room =
        let le : o.first + position_count (get_or (map bytes_of_pattern kinds) in_code.place empty)
        ≤ 0 + position_count (one_of_these (map bytes_of_pattern kinds)) = in_code.room in
        omega (arith, le, ap position_count this_kind)

    pub owner_expects : (next : NextByte) → ExpectsInPlace (map bytes_of_pattern kinds) 0 (IsTrue false) M o.place next
        ↔ Expects (bytes_of_pattern kind) o.first (IsTrue false) M next
    owner_expects next =
        let P : ℕ → Type 0 = λ z. ExpectsInPlace (map bytes_of_pattern kinds) 0 (IsTrue false) M z next in
        let Q : ByteExpression → Type 0 = λ x. Expects x o.first (IsTrue false) M next in (
          λ h. subst Q this_kind ((in_code.same next).0 (subst P (sym same_place) h)),
          λ h. subst P same_place ((in_code.same next).1 (subst Q (sym this_kind) h)),
        )

-- a mark more
pub owned_more : (xs : List ByteExpression) (M : ℕ → Type 0) (marks : List ℕ) (mark : ℕ) (old middle new : List NextByte) →
    AddsOwned xs M marks old middle →
    AddsOwnedAt xs M mark middle new →
    AddsOwned xs M (marks ++ mark ∷ []) old new
owned_more xs M marks mark old middle new before adds next = (
  λ h. elim ((adds next).0 h) [
    | inl m ↦ elim ((before next).0 m) [
      | inl o ↦ inl o
      | inr k ↦ inr (k.0, Contains-append_left marks (mark ∷ []) k.0 k.1, k.2)
    ]
    | inr k ↦ inr (mark, Contains-push marks mark, k)
  ],
  λ h. elim h [
    | inl o ↦ (adds next).1 (inl ((before next).1 (inl o)))
    | inr k ↦ elim (Contains-push_cases marks mark k.0 k.1) [
      | inl o ↦ (adds next).1 (inl ((before next).1 (inr (k.0, o, k.2))))
      | inr e ↦ (adds next).1 (inr (subst (λ (z : ℕ). ExpectsOwned xs M z next) (sym e) k.2))
    ]
  ],
)

module _ (xs : List ByteExpression) (M : ℕ → Type 0) (mark : ℕ) (old : List NextByte) where
  -- nothing is added by a mark of no kind
  pub owned_by_none : slice_get (owners_from xs 0 0) mark ≡ None → AddsOwnedAt xs M mark old old
  owned_by_none none next = (
    λ h. inl h,
    λ h. elim h [
      | inl p ↦ p
      | inr k ↦ let never : Some k.owner ≡ None = sym k.is ∙ none in cc
    ],
  )

  -- nor by one whose kind was gone through
  pub owned_by_last : (o : Owner) → slice_get (owners_from xs 0 0) mark ≡ Some o → (last : Option ℕ) →
      last ≡ Some o.place → HasAllOf xs M last old → AddsOwnedAt xs M mark old old
  owned_by_last o at last is has next = (
    λ h. inl h,
    λ h. elim h [
      | inl p ↦ p
      | inr k ↦
          let same : k.owner ≡ o = same_Some k.owner o (sym k.is ∙ at) in
          has o.place is next
          (subst (λ (z : Owner). ExpectsInPlace xs 0 (IsTrue false) M z.place next) same k.expects)
    ],
  )

  module _ (x : ByteExpression) (o : Owner) (at : slice_get (owners_from xs 0 0) mark ≡ Some o)
      (same : (next : NextByte) → ExpectsInPlace xs 0 (IsTrue false) M o.place next ↔ Expects x o.first (IsTrue false) M next)
      (new : List NextByte) (adds : AddsExpected x o.first (IsTrue false) M old new) where
    -- a kind is gone through
    pub owned_by : AddsOwnedAt xs M mark old new
    owned_by next = (
      λ h. elim ((adds next).0 h) [
        | inl p ↦ inl p
        | inr k ↦ inr (record { owner = o; is = at; expects = (same next).1 k })
      ],
      λ h. elim h [
        | inl p ↦ (adds next).1 (inl p)
        | inr k ↦
            let one : k.owner ≡ o = same_Some k.owner o (sym k.is ∙ at) in
            (adds next).1
            (inr ((same next).0
            (subst (λ (z : Owner). ExpectsInPlace xs 0 (IsTrue false) M z.place next) one k.expects)))
      ],
    )

    pub owned_all : HasAllOf xs M (Some o.place) new
    owned_all place is next h =
        let one : o.place ≡ place = same_Some o.place place is in
        (adds next).1
        (inr ((same next).0 (subst (λ (z : ℕ). ExpectsInPlace xs 0 (IsTrue false) M z next) (sym one) h)))
