-- Sets of positions: what a byte leads to, and sets that are one.
use Rattle.std.proofs.Common.{◌≡◌, ℕ, ◌+◌, ◌<◌, ◌^◌, ◌↔◌, ◌⊎◌, List, [], ◌∷◌, ◌++◌, length, take, replicate, slice_set, slice_index_or, Bool, IsTrue, nat_eq, sym, ◌∙◌, ap, inl, inr, arith, subst, get_or-set_other}
use Rattle.std.specs.List.{Contains}
use Rattle.std.proofs.lemmas.Bool.{cases_eq, cases_lt, eqb-true, eq-eqb}
use Rattle.std.proofs.lemmas.Grind.{get_or-set_at}
use Rattle.std.proofs.lemmas.List.{get_or_default, get_or-replicate, nil_from_length, take_more}
use Rattle.std.proofs.lemmas.List.Elements.{Contains-append_left, Contains-push, Contains-push_cases}
use Rattle.cell_sets.specs.Cells.{AddsSymbol, IsRising}
use Rattle.cell_sets.proofs.CellsLemmas.{rising_lists_are_sets}
use Rattle.spec_automata.specs.ByteExpressions.{ByteExpression}
use Rattle.spec_automata.specs.Positions.{IsBorder, position_count}
use Rattle.lbnf_regex.specs.declared.next_byte.NextByte.{NextByte}
use Rattle.lbnf_regex.specs.declared.next_byte.NextByte.TheVariants.{InComment}
use Rattle.lbnf_regex.specs.Steps.{AddsExpected, LeadsTo}
use Rattle.lbnf_regex.specs.Sets.{HaveJust, IsSetThat, IsNext, AreExpected, HaveFewPositions, LeadsFrom, StepsFrom, AreTargets, AddsTargets}
use Rattle.lbnf_regex.proofs.ClosingLemmas.{one_border}
use Rattle.lbnf_regex.proofs.ExpectingLemmas.{expects_same, expects_small}

-- sets of the same numbers are one
pub same_sets : (Is : ℕ → Type 0) (set other : List ℕ) → IsSetThat Is set → IsSetThat Is other → set ≡ other
same_sets Is set other here there =
    rising_lists_are_sets set other here.rising there.rising
    (λ p. (λ h. (there.are p).1 ((here.are p).0 h), λ h. (here.are p).1 ((there.are p).0 h)))

-- a set of numbers that are otherwise described
pub set_like : (Is Other : ℕ → Type 0) (set : List ℕ) → ((p : ℕ) → Is p ↔ Other p) → IsSetThat Is set →
    IsSetThat Other set
set_like Is Other set same is = record {
  rising = is.rising;
  are = λ p. (λ h. (same p).0 ((is.are p).0 h), λ h. (is.are p).1 ((same p).1 h));
}

-- inside a comment a byte leads to one position
pub comment_leads : (first : ℕ) (closing : List ℕ) (size byte longer : ℕ) →
    IsBorder closing (take size closing ++ byte ∷ []) longer → (position : ℕ) →
    LeadsTo (InComment first closing size) byte position ↔ (position ≡ first + longer)
comment_leads first closing size byte longer border position = (
  λ h.
      let same : h.0 ≡ longer = one_border closing (take size closing ++ byte ∷ []) h.0 longer h.1 border in
      h.2 ∙ ap (λ (z : ℕ). first + z) same,
  λ e. (longer, border, e),
)

-- targets that are added where one thing holds are added where another does that comes to the same
pub adds_like : (A B : ℕ → ℕ → Type 0) (old new : List (List ℕ)) → ((b p : ℕ) → b < 256 → A b p ↔ B b p) →
    AddsTargets A old new → AddsTargets B old new
adds_like A B old new same adds b lt p = (
  λ h. elim ((adds b lt p).0 h) [
    | inl o ↦ inl o
    | inr k ↦ inr ((same b p lt).0 k)
  ],
  λ h. elim h [
    | inl o ↦ (adds b lt p).1 (inl o)
    | inr k ↦ (adds b lt p).1 (inr ((same b p lt).1 k))
  ],
)

-- targets that are added in turn
adds_both : (A B C : ℕ → ℕ → Type 0) (old middle new : List (List ℕ)) →
    ((b p : ℕ) → C b p ↔ (A b p ⊎ B b p)) → AddsTargets A old middle → AddsTargets B middle new → AddsTargets C old new
adds_both A B C old middle new both first second b lt p = (
  λ h. elim ((second b lt p).0 h) [
    | inl m ↦ elim ((first b lt p).0 m) [
      | inl o ↦ inl o
      | inr k ↦ inr ((both b p).1 (inl k))
    ]
    | inr k ↦ inr ((both b p).1 (inr k))
  ],
  λ h. elim h [
    | inl o ↦ (second b lt p).1 (inl ((first b lt p).1 (inl o)))
    | inr k ↦ elim ((both b p).0 k) [
      | inl f ↦ (second b lt p).1 (inl ((first b lt p).1 (inr f)))
      | inr g ↦ (second b lt p).1 (inr g)
    ]
  ],
)

-- nothing is in an empty list
pub none_there : {X : Type 0} (x : X) → Contains {X = X} [] x → ⊥
none_there x h = let within : h.0 < 0 = h.1 in absurd (omega (arith, within))

module _ (targets : List (List ℕ)) (byte position : ℕ) (old set : List ℕ) (within : byte < length targets)
    (is_old : old ≡ slice_index_or targets byte old) (adds : AddsSymbol old set position) where
  -- a position more in the set of a byte is one target more
  pub adds_at : AddsTargets (λ b p. (b ≡ byte) × (p ≡ position)) targets (slice_set targets byte set)
  adds_at b lt p = elim (cases_eq b byte) [
    | inl same ↦
        let P : List ℕ → Type 0 = λ xs. Contains xs p in
        let at : slice_index_or (slice_set targets byte set) b [] ≡ set = get_or-set_at targets byte b set [] same within in
        let was : old ≡ slice_index_or targets b [] =
        is_old ∙ get_or_default targets byte old [] within ∙ ap (λ (k : ℕ). slice_index_or targets k []) (sym same) in (
          λ h. elim ((adds p).0 (subst P at h)) [
            | inl o ↦ inl (subst P was o)
            | inr e ↦ inr (same, e)
          ],
          λ h. elim h [
            | inl o ↦ subst P (sym at) ((adds p).1 (inl (subst P (sym was) o)))
            | inr k ↦ subst P (sym at) ((adds p).1 (inr k.1))
          ],
        )
    | inr differ ↦
        let P : List ℕ → Type 0 = λ xs. Contains xs p in
        let kept : slice_index_or (slice_set targets byte set) b [] ≡ slice_index_or targets b [] =
        get_or-set_other targets byte b set [] differ in (
          λ h. inl (subst P kept h),
          λ h. elim h [
            | inl o ↦ subst P (sym kept) o
            | inr k ↦ absurd (differ k.0)
          ],
        )
  ]

-- one byte of a set behind those so far
pub set_more : (set : List ℕ) (i position : ℕ) (old middle new : List (List ℕ)) → i < length set →
    AddsTargets (λ b p. Contains (take i set) b × (p ≡ position)) old middle →
    AddsTargets (λ b p. (b ≡ slice_index_or set i 0) × (p ≡ position)) middle new →
    AddsTargets (λ b p. Contains (take (i + 1) set) b × (p ≡ position)) old new
set_more set i position old middle new lt first second =
    let byte : ℕ = slice_index_or set i 0 in
    let cut : take (i + 1) set ≡ take i set ++ byte ∷ [] = take_more set i 0 lt in
    adds_both (λ b p. Contains (take i set) b × (p ≡ position)) (λ b p. (b ≡ byte) × (p ≡ position))
    (λ b p. Contains (take (i + 1) set) b × (p ≡ position)) old middle new (λ b p. (
      λ h. elim (Contains-push_cases (take i set) byte b (subst (λ (xs : List ℕ). Contains xs b) cut h.0)) [
        | inl o ↦ inl (o, h.1)
        | inr e ↦ inr (sym e, h.1)
      ],
      λ h. elim h [
        | inl o ↦ (subst (λ (xs : List ℕ). Contains xs b) (sym cut) (Contains-append_left (take i set) (byte ∷ []) b o.0), o.1)
        | inr k ↦ (
          subst (λ (xs : List ℕ). Contains xs b) (sym cut)
              (subst (Contains (take i set ++ byte ∷ [])) (sym k.0) (Contains-push (take i set) byte)),
          k.1,
        )
      ],
    ))
    first second

-- one byte inside a comment behind those so far
pub comment_more : (first : ℕ) (closing : List ℕ) (size n longer : ℕ) (old middle new : List (List ℕ)) →
    IsBorder closing (take size closing ++ n ∷ []) longer →
    AddsTargets (λ b p. (b < n) × LeadsTo (InComment first closing size) b p) old middle →
    AddsTargets (λ b p. (b ≡ n) × (p ≡ first + longer)) middle new →
    AddsTargets (λ b p. (b < n + 1) × LeadsTo (InComment first closing size) b p) old new
comment_more first closing size n longer old middle new border before here =
    let next : NextByte = InComment first closing size in
    adds_both (λ b p. (b < n) × LeadsTo next b p) (λ b p. (b ≡ n) × (p ≡ first + longer))
    (λ b p. (b < n + 1) × LeadsTo next b p) old middle new (λ b p. (
      λ h. elim (cases_lt b n) [
        | inl lt ↦ inl (lt, h.1)
        | inr ge ↦
            let same : b ≡ n = omega (arith, ge, h.0) in
            inr (same, (comment_leads first closing size n longer border p).0 (subst (λ (z : ℕ). LeadsTo next z p) same h.1))
      ],
      λ h. elim h [
        | inl k ↦ (omega (arith, k.0), k.1)
        | inr k ↦ (
          omega (arith, k.0),
          subst (λ (z : ℕ). LeadsTo next z p) (sym k.0) ((comment_leads first closing size n longer border p).1 k.1),
        )
      ],
    ))
    before here

-- no byte leads to anything by no way
pub no_targets : (targets : List (List ℕ)) → targets ≡ replicate 256 [] → AreTargets (LeadsFrom []) targets
no_targets targets is b lt p =
    let empty : slice_index_or targets b [] ≡ [] =
    ap (λ (z : List (List ℕ)). slice_index_or z b []) is ∙ get_or-replicate 256 b [] [] lt in (
      λ h. absurd (none_there p (subst (λ (xs : List ℕ). Contains xs p) empty h)),
      λ h. absurd (none_there h.0 h.1),
    )

-- the targets of the ways so far, and of one more
pub targets_more : (ways : List NextByte) (next : NextByte) (old new : List (List ℕ)) → AreTargets (LeadsFrom ways) old →
    AddsTargets (LeadsTo next) old new → AreTargets (LeadsFrom (ways ++ next ∷ [])) new
targets_more ways next old new before adds byte lt position = (
  λ h. elim ((adds byte lt position).0 h) [
    | inl o ↦ let k = (before byte lt position).0 o in (k.0, Contains-append_left ways (next ∷ []) k.0 k.1, k.2)
    | inr l ↦ (next, Contains-push ways next, l)
  ],
  λ h. elim (Contains-push_cases ways next h.0 h.1) [
    | inl o ↦ (adds byte lt position).1 (inl ((before byte lt position).1 (h.0, o, h.2)))
    | inr e ↦ (adds byte lt position).1 (inr (subst (λ (z : NextByte). LeadsTo z byte position) (sym e) h.2))
  ],
)

-- what a state expects leads to what follows it
pub targets_step : (x : ByteExpression) (state : List ℕ) (expected : List NextByte) (targets : List (List ℕ)) →
    AreExpected x state expected → AreTargets (LeadsFrom expected) targets → AreTargets (StepsFrom x state) targets
targets_step x state expected targets are just b lt p = (
  λ h. let k = (just b lt p).0 h in (k.0, (are k.0).0 k.1, k.2),
  λ h. (just b lt p).1 (h.0, (are h.0).1 h.1, h.2),
)

-- the set of a byte is the set that follows
pub next_is_set : (x : ByteExpression) (state : List ℕ) (targets : List (List ℕ)) (b : ℕ) (set : List ℕ) → b < 256 →
    AreTargets (StepsFrom x state) targets → set ≡ slice_index_or targets b [] → IsRising set → IsNext x state b set
next_is_set x state targets b set lt just is rising = record {
  rising = rising;
  are = subst (HaveJust (StepsFrom x state b)) (sym is) (just b lt);
}

-- what is expected of a state in code, where its emptiness is tested
pub are_expected : (x : ByteExpression) (state : List ℕ) (entered : Bool) (new : List NextByte) →
    (IsTrue entered ↔ (state ≡ [])) → AddsExpected x 0 (IsTrue entered) (Contains state) [] new → AreExpected x state new
are_expected x state entered new same adds next = (
  λ h. elim ((adds next).0 h) [
    | inl o ↦ let within : o.0 < 0 = o.1 in absurd (omega (arith, within))
    | inr k ↦ expects_same x 0 (IsTrue entered) (state ≡ []) (Contains state) next same.0 k
  ],
  λ h. (adds next).1 (inr (expects_same x 0 (state ≡ []) (IsTrue entered) (Contains state) next same.1 h)),
)

pub are_small : (x : ByteExpression) (state : List ℕ) (expected : List NextByte) → position_count x < 2 ^ 32 →
    AreExpected x state expected → HaveFewPositions expected
are_small x state expected room are next has =
    expects_small x 0 (state ≡ []) (Contains state) next (omega (arith, room)) ((are next).0 has)

-- a list is empty where its length is found to be 0
pub empty_list : (xs : List ℕ) (found : Bool) → found ≡ nat_eq (length xs) 0 → IsTrue found ↔ (xs ≡ [])
empty_list xs found is = (
  λ e. nil_from_length xs (eqb-true (length xs) 0 (sym is ∙ e)),
  λ e. is ∙ eq-eqb (length xs) 0 (ap length e),
)
