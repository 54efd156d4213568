-- What a pattern expects, part by part.
use Rattle.std.proofs.Common.{◌≡◌, ℕ, ◌+◌, ◌-◌, ◌<◌, ◌≤◌, ◌^◌, ◌↔◌, ◌⊎◌, List, [], ◌∷◌, ◌++◌, map, drop, length, get_or, true, sym, ◌∙◌, ap, inl, inr, arith, subst}
use Rattle.std.specs.List.{Contains}
use Rattle.std.proofs.lemmas.Bool.{and_parts, and_from}
use Rattle.std.proofs.lemmas.List.{drop_more, drop_all, get_or-map}
use Rattle.std.proofs.lemmas.List.Elements.{Contains-append_left, Contains-push, Contains-push_cases}
use Rattle.spec_automata.specs.ByteExpressions.{ByteExpression, empty, nothing, byte_in, in_turn, either, star, plus, until}
use Rattle.spec_automata.specs.Positions.{position_count}
use Rattle.lbnf_regex.specs.declared.pattern.Pattern.{Pattern}
use Rattle.lbnf_regex.specs.declared.next_byte.NextByte.{NextByte}
use Rattle.lbnf_regex.specs.declared.next_byte.NextByte.TheVariants.{InComment}
use Rattle.lbnf_regex.specs.Patterns.{bytes_of_pattern, sizes_of}
use Rattle.lbnf_regex.proofs.PositionLemmas.{last_within}
use Rattle.lbnf_regex.specs.Steps.{is_nullable, HasLast, HasWithin, EntersBehind, EntersAgain, Expects, AddsExpected, AddsIf, AddsInside, HasFewPositions}

-- what is expected depends on whether the expression is entered, and not how
pub expects_same : (x : ByteExpression) (n : ℕ) (E F : Type 0) (M : ℕ → Type 0) (next : NextByte) → (E → F) →
    Expects x n E M next → Expects x n F M next
expects_same empty n E F M next f h = absurd h
expects_same nothing n E F M next f h = absurd h
expects_same (byte_in s) n E F M next f h = (f h.0, h.1)
expects_same (in_turn x y) n E F M next f (inl h) = inl (expects_same x n E F M next f h)
expects_same (in_turn x y) n E F M next f (inr h) =
    inr
    (expects_same y (n + position_count x) (EntersBehind x n E M) (EntersBehind x n F M) M next
    (λ e. elim e [ inl k ↦ inl (k.0, f k.1) | inr k ↦ inr k ]) h)
expects_same (either x y) n E F M next f (inl h) = inl (expects_same x n E F M next f h)
expects_same (either x y) n E F M next f (inr h) = inr (expects_same y (n + position_count x) E F M next f h)
expects_same (star x) n E F M next f h =
    expects_same x n (EntersAgain x n E M) (EntersAgain x n F M) M next
    (λ e. elim e [ inl k ↦ inl (f k) | inr k ↦ inr k ]) h
expects_same (plus x) n E F M next f h =
    expects_same x n (EntersAgain x n E M) (EntersAgain x n F M) M next
    (λ e. elim e [ inl k ↦ inl (f k) | inr k ↦ inr k ]) h
expects_same (until closing) n E F M next f (inl h) = inl (f h.0, h.1, h.2)
expects_same (until closing) n E F M next f (inr h) = inr h

-- nothing is expected by what is not entered and has no marked position
pub expects_none : (x : ByteExpression) (n : ℕ) (E : Type 0) (M : ℕ → Type 0) → (E → ⊥) →
    (HasWithin n (position_count x) M → ⊥) → (next : NextByte) → Expects x n E M next → ⊥
expects_none empty n E M never none next h = absurd h
expects_none nothing n E M never none next h = absurd h
expects_none (byte_in s) n E M never none next h = never h.0
expects_none (in_turn x y) n E M never none next (inl h) =
    expects_none x n E M never (λ k. none (k.0, k.1, k.2, omega (arith, k.3))) next h
expects_none (in_turn x y) n E M never none next (inr h) =
    expects_none y (n + position_count x) (EntersBehind x n E M) M
    (λ e. elim e [
      | inl k ↦ never k.1
      | inr k ↦ let at = last_within x n k.0 k.2 in none (k.0, k.1, at.0, omega (arith, at.1))
    ]) (λ k. none (k.0, k.1, omega (arith, k.2), omega (arith, k.3))) next h
expects_none (either x y) n E M never none next (inl h) =
    expects_none x n E M never (λ k. none (k.0, k.1, k.2, omega (arith, k.3))) next h
expects_none (either x y) n E M never none next (inr h) =
    expects_none y (n + position_count x) E M never (λ k. none (k.0, k.1, omega (arith, k.2), omega (arith, k.3))) next h
expects_none (star x) n E M never none next h =
    expects_none x n (EntersAgain x n E M) M (λ e. elim e [
      | inl k ↦ never k
      | inr k ↦ let at = last_within x n k.0 k.2 in none (k.0, k.1, at.0, at.1)
    ]) none next h
expects_none (plus x) n E M never none next h =
    expects_none x n (EntersAgain x n E M) M (λ e. elim e [
      | inl k ↦ never k
      | inr k ↦ let at = last_within x n k.0 k.2 in none (k.0, k.1, at.0, at.1)
    ]) none next h
expects_none (until closing) n E M never none next (inl h) = never h.0
expects_none (until closing) n E M never none next (inr h) =
    none (n + h.0, h.1, omega arith, omega (arith, h.2))

-- a match that can end at a marked position has one among its positions
pub last_marked : (x : ByteExpression) (n : ℕ) (M : ℕ → Type 0) → HasLast x n M → HasWithin n (position_count x) M
last_marked x n M h = let at = last_within x n h.0 h.2 in (h.0, h.1, at.0, at.1)

-- nothing is added where nothing is expected
pub adds_none : (x : ByteExpression) (n : ℕ) (E : Type 0) (M : ℕ → Type 0) (old : List NextByte) →
    ((next : NextByte) → Expects x n E M next → ⊥) → AddsExpected x n E M old old
adds_none x n E M old never next =
    (λ h. inl h, λ h. elim h [ inl k ↦ k | inr k ↦ absurd (never next k) ])

-- nothing is added by what is not entered and has no marked position
pub adds_dead : (x : ByteExpression) (n count : ℕ) (E : Type 0) (M : ℕ → Type 0) (old : List NextByte) →
    count ≡ position_count x → ((E ⊎ HasWithin n count M) → ⊥) → AddsExpected x n E M old old
adds_dead x n count E M old same dead =
    adds_none x n E M old
    (expects_none x n E M (λ e. dead (inl e))
    (λ k. dead (inr (subst (λ (z : ℕ). HasWithin n z M) (sym same) k))))

-- two additions behind each other are one
pub adds_both : (S T U : NextByte → Type 0) (old middle new : List NextByte) →
    ((next : NextByte) → U next ↔ (S next ⊎ T next)) →
    ((next : NextByte) → Contains middle next ↔ (Contains old next ⊎ S next)) →
    ((next : NextByte) → Contains new next ↔ (Contains middle next ⊎ T next)) →
    (next : NextByte) → Contains new next ↔ (Contains old next ⊎ U next)
adds_both S T U old middle new is first behind next = (
  λ h. elim ((behind next).0 h) [
    | inl m ↦ elim ((first next).0 m) [ inl o ↦ inl o | inr s ↦ inr ((is next).1 (inl s)) ]
    | inr t ↦ inr ((is next).1 (inr t))
  ],
  λ h. elim h [
    | inl o ↦ (behind next).1 (inl ((first next).1 (inl o)))
    | inr u ↦ elim ((is next).0 u) [
      | inl s ↦ (behind next).1 (inl ((first next).1 (inr s)))
      | inr t ↦ (behind next).1 (inr t)
    ]
  ],
)

module _ (x y : ByteExpression) (n m : ℕ) (E : Type 0) (M : ℕ → Type 0) (behind_x : m ≡ n + position_count x)
    (old middle new : List NextByte) where
  pub adds_in_turn : (F : Type 0) → (F ↔ EntersBehind x n E M) → AddsExpected x n E M old middle →
      AddsExpected y m F M middle new → AddsExpected (in_turn x y) n E M old new
  adds_in_turn F same first behind =
      let moved : AddsExpected y (n + position_count x) F M middle new =
      subst (λ (k : ℕ). AddsExpected y k F M middle new) behind_x behind in
      adds_both (Expects x n E M) (Expects y (n + position_count x) F M) (Expects (in_turn x y) n E M) old middle new
      (λ next. (
        λ h. elim h [
          | inl s ↦ inl s
          | inr t ↦ inr (expects_same y (n + position_count x) (EntersBehind x n E M) F M next same.1 t)
        ],
        λ h. elim h [
          | inl s ↦ inl s
          | inr t ↦ inr (expects_same y (n + position_count x) F (EntersBehind x n E M) M next same.0 t)
        ],
      )) first moved

  pub adds_either : AddsExpected x n E M old middle → AddsExpected y m E M middle new →
      AddsExpected (either x y) n E M old new
  adds_either first behind =
      let moved : AddsExpected y (n + position_count x) E M middle new =
      subst (λ (k : ℕ). AddsExpected y k E M middle new) behind_x behind in
      adds_both (Expects x n E M) (Expects y (n + position_count x) E M) (Expects (either x y) n E M) old middle new
      (λ next. (λ h. h, λ h. h)) first moved

module _ (x : ByteExpression) (n : ℕ) (E F : Type 0) (M : ℕ → Type 0) (same : F ↔ EntersAgain x n E M)
    (old new : List NextByte) where
  pub adds_star : AddsExpected x n F M old new → AddsExpected (star x) n E M old new
  adds_star adds next = (
    λ h. elim ((adds next).0 h) [
      | inl o ↦ inl o
      | inr k ↦ inr (expects_same x n F (EntersAgain x n E M) M next same.0 k)
    ],
    λ h. elim h [
      | inl o ↦ (adds next).1 (inl o)
      | inr k ↦ (adds next).1 (inr (expects_same x n (EntersAgain x n E M) F M next same.1 k))
    ],
  )

  pub adds_plus : AddsExpected x n F M old new → AddsExpected (plus x) n E M old new
  adds_plus adds next = adds_star adds next

-- one way is added where something holds
pub adds_one : (Holds : Type 0) (given : NextByte) (old : List NextByte) → Holds → AddsIf Holds given old (old ++ given ∷ [])
adds_one Holds given old holds next = (
  λ h. elim (Contains-push_cases old given next h) [ inl o ↦ inl o | inr e ↦ inr (holds, sym e) ],
  λ h. elim h [
    | inl o ↦ Contains-append_left old (given ∷ []) next o
    | inr k ↦ subst (Contains (old ++ given ∷ [])) (sym k.1) (Contains-push old given)
  ],
)

pub adds_not : (Holds : Type 0) (given : NextByte) (old : List NextByte) → (Holds → ⊥) → AddsIf Holds given old old
adds_not Holds given old never next = (λ h. inl h, λ h. elim h [ inl o ↦ o | inr k ↦ absurd (never k.0) ])

-- parts, from one on: the one and those behind it
pub parts_more : (parts : List Pattern) (i : ℕ) (part : Pattern) → i < length parts → part ≡ get_or parts i part →
    map bytes_of_pattern (drop i parts) ≡ bytes_of_pattern part ∷ map bytes_of_pattern (drop (i + 1) parts)
parts_more parts i part lt is =
    ap (map bytes_of_pattern) (drop_more parts i part lt ∙ ap (λ (z : Pattern). z ∷ drop (i + 1) parts) (sym is))

pub parts_end : (parts : List Pattern) (i : ℕ) → length parts ≤ i → map bytes_of_pattern (drop i parts) ≡ []
parts_end parts i le = ap (map bytes_of_pattern) (drop_all i parts le)

-- a size is that of the pattern in its place
pub size_at : (patterns : List Pattern) (sizes : List ℕ) (i : ℕ) (pattern : Pattern) → sizes ≡ sizes_of patterns →
    i < length patterns → pattern ≡ get_or patterns i pattern → get_or sizes i 0 ≡ position_count (bytes_of_pattern pattern)
size_at patterns sizes i pattern are lt is =
    ap (λ (z : List ℕ). get_or z i 0) are
    ∙ get_or-map (λ (p : Pattern). position_count (bytes_of_pattern p)) patterns i pattern 0 lt
    ∙ ap (λ (p : Pattern). position_count (bytes_of_pattern p)) (sym is)

-- the last positions of two in turn, or of what stood before them
pub last_in_turn : (x y : ByteExpression) (n : ℕ) (M : ℕ → Type 0) (B : Type 0) →
    (HasLast (in_turn x y) n M ⊎ ((is_nullable (in_turn x y) ≡ true) × B))
    ↔ (HasLast y (n + position_count x) M ⊎ ((is_nullable y ≡ true) × (HasLast x n M ⊎ ((is_nullable x ≡ true) × B))))
last_in_turn x y n M B = (
  λ h. elim h [
    | inl k ↦ elim k.2 [ inl l ↦ inl (k.0, k.1, l) | inr l ↦ inr (l.0, inl (k.0, k.1, l.1)) ]
    | inr k ↦ let both = and_parts (is_nullable x) (is_nullable y) k.0 in inr (both.1, inr (both.0, k.1))
  ],
  λ h. elim h [
    | inl k ↦ inl (k.0, k.1, inl k.2)
    | inr k ↦ elim k.1 [
      | inl l ↦ inl (l.0, l.1, inr (k.0, l.2))
      | inr l ↦ inr (and_from (is_nullable x) (is_nullable y) l.0 k.0, l.1)
    ]
  ],
)

-- the last positions of one of two
pub last_of_either : (x y : ByteExpression) (n : ℕ) (M : ℕ → Type 0) →
    HasLast (either x y) n M ↔ (HasLast x n M ⊎ HasLast y (n + position_count x) M)
last_of_either x y n M = (
  λ h. elim h.2 [ inl l ↦ inl (h.0, h.1, l) | inr l ↦ inr (h.0, h.1, l) ],
  λ h. elim h [ inl k ↦ (k.0, k.1, inl k.2) | inr k ↦ (k.0, k.1, inr k.2) ],
)

-- what is expected is small where the positions are
pub expects_small : (x : ByteExpression) (n : ℕ) (E : Type 0) (M : ℕ → Type 0) (next : NextByte) →
    n + position_count x < 2 ^ 32 → Expects x n E M next → HasFewPositions next
expects_small empty n E M next room h = absurd h
expects_small nothing n E M next room h = absurd h
expects_small (byte_in s) n E M next room h = subst HasFewPositions (sym h.1) (omega (arith, room))
expects_small (in_turn x y) n E M next room (inl h) = expects_small x n E M next (omega (arith, room)) h
expects_small (in_turn x y) n E M next room (inr h) =
    expects_small y (n + position_count x) (EntersBehind x n E M) M next (omega (arith, room)) h
expects_small (either x y) n E M next room (inl h) = expects_small x n E M next (omega (arith, room)) h
expects_small (either x y) n E M next room (inr h) =
    expects_small y (n + position_count x) E M next (omega (arith, room)) h
expects_small (star x) n E M next room h = expects_small x n (EntersAgain x n E M) M next room h
expects_small (plus x) n E M next room h = expects_small x n (EntersAgain x n E M) M next room h
expects_small (until closing) n E M next room (inl h) =
    subst HasFewPositions (sym h.2) (h.1, omega (arith, room))
expects_small (until closing) n E M next room (inr h) =
    subst HasFewPositions (sym h.3) (h.2, omega (arith, room))

-- what is expected comes from entering or from a mark
pub expects_from : (x : ByteExpression) (n : ℕ) (E : Type 0) (M : ℕ → Type 0) (next : NextByte) →
    Expects x n E M next → E ⊎ ((q : ℕ) × M q × (n ≤ q) × (q < n + position_count x))
expects_from empty n E M next h = absurd h
expects_from nothing n E M next h = absurd h
expects_from (byte_in s) n E M next h = inl h.0
expects_from (in_turn x y) n E M next (inl h) = elim (expects_from x n E M next h) [
  | inl e ↦ inl e
  | inr q ↦ inr (q.0, q.1, q.2, omega (arith, q.3))
]
expects_from (in_turn x y) n E M next (inr h) =
    elim (expects_from y (n + position_count x) (EntersBehind x n E M) M next h) [
      | inl e ↦ elim e [
        | inl k ↦ inl k.1
        | inr k ↦ let in_x = last_within x n k.0 k.2 in inr (k.0, k.1, in_x.0, omega (arith, in_x.1))
      ]
      | inr q ↦ inr (q.0, q.1, omega (arith, q.2), omega (arith, q.3))
    ]
expects_from (either x y) n E M next (inl h) = elim (expects_from x n E M next h) [
  | inl e ↦ inl e
  | inr q ↦ inr (q.0, q.1, q.2, omega (arith, q.3))
]
expects_from (either x y) n E M next (inr h) = elim (expects_from y (n + position_count x) E M next h) [
  | inl e ↦ inl e
  | inr q ↦ inr (q.0, q.1, omega (arith, q.2), omega (arith, q.3))
]
expects_from (star x) n E M next h = elim (expects_from x n (EntersAgain x n E M) M next h) [
  | inl e ↦ elim e [
    | inl k ↦ inl k
    | inr k ↦ let in_x = last_within x n k.0 k.2 in inr (k.0, k.1, in_x.0, in_x.1)
  ]
  | inr q ↦ inr q
]
expects_from (plus x) n E M next h = elim (expects_from x n (EntersAgain x n E M) M next h) [
  | inl e ↦ elim e [
    | inl k ↦ inl k
    | inr k ↦ let in_x = last_within x n k.0 k.2 in inr (k.0, k.1, in_x.0, in_x.1)
  ]
  | inr q ↦ inr q
]
expects_from (until closing) n E M next (inl h) = inl h.0
expects_from (until closing) n E M next (inr h) = inr (n + h.0, h.1, omega arith, omega (arith, h.2))

-- the ways of the marks so far, and of one more
pub inside_more : (first : ℕ) (closing marks : List ℕ) (mark : ℕ) (old middle new : List NextByte) →
    AddsInside first closing (Contains marks) old middle →
    AddsIf ((first ≤ mark) × (mark - first < length closing)) (InComment first closing (mark - first)) middle new →
    AddsInside first closing (Contains (marks ++ mark ∷ [])) old new
inside_more first closing marks mark old middle new before adds =
    adds_both
    (λ next. (size : ℕ) × Contains marks (first + size) × (size < length closing) × (next ≡ InComment first closing size))
    (λ next. ((first ≤ mark) × (mark - first < length closing)) × (next ≡ InComment first closing (mark - first)))
    (λ next. (size : ℕ) × Contains (marks ++ mark ∷ []) (first + size) × (size < length closing)
    × (next ≡ InComment first closing size))
    old middle new is before adds
  where
    is : (next : NextByte) →
        ((size : ℕ) × Contains (marks ++ mark ∷ []) (first + size) × (size < length closing) × (next ≡ InComment first closing size))
        ↔ (((size : ℕ) × Contains marks (first + size) × (size < length closing) × (next ≡ InComment first closing size))
        ⊎ (((first ≤ mark) × (mark - first < length closing)) × (next ≡ InComment first closing (mark - first))))
    is next = (
      λ h. elim (Contains-push_cases marks mark (first + h.0) h.1) [
        | inl o ↦ inl (h.0, o, h.2, h.3)
        | inr e ↦
            let same : h.0 ≡ mark - first = omega (arith, e) in
            inr ((omega (arith, e), omega (arith, same, h.2)), h.3 ∙ ap (InComment first closing) same)
      ],
      λ h. elim h [
        | inl k ↦ (k.0, Contains-append_left marks (mark ∷ []) (first + k.0) k.1, k.2, k.3)
        | inr k ↦
            let same : mark ≡ first + (mark - first) = omega (arith, (k.0).0) in
            (mark - first, subst (Contains (marks ++ mark ∷ [])) same (Contains-push marks mark), (k.0).1, k.1)
      ],
    )

-- where a closing text is entered, and inside of it
pub adds_closing : (closing : List ℕ) (first : ℕ) (E : Type 0) (M : ℕ → Type 0) (old middle new : List NextByte) →
    AddsIf (E × (0 < length closing)) (InComment first closing 0) old middle → AddsInside first closing M middle new →
    AddsExpected (until closing) first E M old new
adds_closing closing first E M old middle new entered inside =
    adds_both (λ next. (E × (0 < length closing)) × (next ≡ InComment first closing 0))
    (λ next. (size : ℕ) × M (first + size) × (size < length closing) × (next ≡ InComment first closing size))
    (Expects (until closing) first E M) old middle new
    (λ next. (
      λ h. elim h [ inl k ↦ inl ((k.0, k.1), k.2) | inr k ↦ inr k ],
      λ h. elim h [ inl k ↦ inl ((k.0).0, (k.0).1, k.1) | inr k ↦ inr k ],
    )) entered inside

-- a match that ends in one part, or in those behind it
pub can_end_more : (x rest : ByteExpression) (n m : ℕ) (M : ℕ → Type 0) (Whole Own Before Behind : Type 0) →
    m ≡ n + position_count x → (Own ↔ HasLast x n M) →
    (Behind ↔ (Own ⊎ ((is_nullable x ≡ true) × Before))) →
    ((HasLast (in_turn x rest) n M ⊎ ((is_nullable (in_turn x rest) ≡ true) × Before)) ↔ Whole) →
    ((HasLast rest m M ⊎ ((is_nullable rest ≡ true) × Behind)) ↔ Whole)
can_end_more x rest n m M Whole Own Before Behind at own behind whole =
    let turn = last_in_turn x rest n M Before in (
      λ h. whole.0 (turn.1 (elim h [
        | inl k ↦ inl (subst (λ (z : ℕ). HasLast rest z M) at k)
        | inr k ↦ inr (k.0, elim (behind.0 k.1) [ inl o ↦ inl (own.0 o) | inr b ↦ inr b ])
      ])),
      λ w. elim (turn.0 (whole.1 w)) [
        | inl k ↦ inl (subst (λ (z : ℕ). HasLast rest z M) (sym at) k)
        | inr k ↦ inr (k.0, behind.1 (elim k.1 [ inl o ↦ inl (own.1 o) | inr b ↦ inr b ]))
      ],
    )

-- a match that ends in one of those behind the one
pub either_more : (x rest : ByteExpression) (n m : ℕ) (M : ℕ → Type 0) (Whole : Type 0) →
    m ≡ n + position_count x → (HasLast x n M → ⊥) → (HasLast (either x rest) n M ↔ Whole) →
    (HasLast rest m M ↔ Whole)
either_more x rest n m M Whole at never whole =
    let last = last_of_either x rest n M in (
      λ h. whole.0 (last.1 (inr (subst (λ (z : ℕ). HasLast rest z M) at h))),
      λ w. elim (last.0 (whole.1 w)) [
        | inl k ↦ absurd (never k)
        | inr k ↦ subst (λ (z : ℕ). HasLast rest z M) (sym at) k
      ],
    )
