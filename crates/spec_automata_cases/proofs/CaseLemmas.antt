-- Small cases, by cases on how a text may be cut.
use Rattle.std.proofs.Common.{◌≡◌, ℕ, zero, suc, ◌<◌, ◌≤◌, List, [], ◌∷◌, ◌++◌, length, take, refl, sym, ◌∙◌, ap, inl, inr, arith, length-append, subst}
use Rattle.std.proofs.lemmas.List.{length-take-le, nil_from_length}
use Rattle.std.specs.List.{Contains}
use Rattle.std.proofs.lemmas.List.Elements.{All-nil, All-cons}
use Rattle.spec_lexing.specs.Matching.{none, more}
use Rattle.spec_automata.specs.Positions.{EndWith, IsPositionOf, HasPosition}
use Rattle.spec_automata.specs.States.{HaveSamePositions, LeadsOn}
use Rattle.spec_automata.proofs.ByteSetLemmas.{none_in, first_or_behind, has_first}
use Rattle.spec_automata_cases.specs.PositionExamples.{word_ab, HasPositionsOfWords, HasPositionCounts}
use Rattle.spec_automata_cases.specs.CommentExamples.{ReadsClosings}
use Rattle.spec_automata_cases.specs.StateExamples.{CountsStates}

-- a list of one number has that number alone
only : (a b : ℕ) → Contains (a ∷ []) b → a ≡ b
only a b has = elim (first_or_behind a [] b has) [ inl e ↦ e | inr n ↦ absurd (none_in b n) ]

same_first : (a b : ℕ) (u v : List ℕ) → a ∷ u ≡ b ∷ v → a ≡ b
same_first a b u v e = cc

front : IsPositionOf word_ab (97 ∷ []) 0
front = inl (97, refl, has_first 97 [], refl)

whole : IsPositionOf word_ab (97 ∷ 98 ∷ []) 1
whole = inr (97 ∷ [], 98 ∷ [], refl, (97, refl, has_first 97 []), inl (98, refl, has_first 98 [], refl))

-- a spelling of the word begins with a
begins : (bytes : List ℕ) → HasPosition word_ab bytes → (rest : List ℕ) × (bytes ≡ 97 ∷ rest)
begins bytes (p, inl e) = ([], e.1 ∙ ap (λ (z : ℕ). z ∷ []) (sym (only 97 e.0 e.2)))
begins bytes (p, inr e) =
    let a = e.3 in
    (e.1, e.2 ∙ ap (λ (z : List ℕ). z ++ e.1) a.1 ∙ ap (λ (z : ℕ). z ∷ e.1) (sym (only 97 a.0 a.2)))

-- it goes on with b
goes_on : (byte : ℕ) (rest : List ℕ) → HasPosition word_ab (97 ∷ byte ∷ rest) → byte ≡ 98
goes_on byte rest (p, inl e) = let long : 97 ∷ byte ∷ rest ≡ e.0 ∷ [] = e.1 in absurd (omega (arith, ap length long))
goes_on byte rest (p, inr e) =
    let a = e.3 in
    let split : 97 ∷ byte ∷ rest ≡ a.0 ∷ e.1 = e.2 ∙ ap (λ (z : List ℕ). z ++ e.1) a.1 in
    let tail : byte ∷ rest ≡ e.1 = cc in
    elim e.4 [
      | inl k ↦
          let one : byte ∷ rest ≡ k.0 ∷ [] = tail ∙ k.1 in same_first byte k.0 rest [] one ∙ sym (only 98 k.0 k.2)
      | inr k ↦ absurd k.4
    ]

-- the whole word does not end at its first position
not_first : IsPositionOf word_ab (97 ∷ 98 ∷ []) 0 → ⊥
not_first (inl e) = let long : 97 ∷ 98 ∷ [] ≡ e.0 ∷ [] = e.1 in absurd (omega (arith, ap length long))
not_first (inr e) = elim e.4 [ inl k ↦ let at : 0 ≡ 1 = k.3 in absurd (omega (arith, at)) | inr k ↦ absurd k.4 ]

pub positions_of_words : HasPositionsOfWords
positions_of_words = record {
  front = front;
  whole = whole;
  empty_text = λ h. let b = begins [] h in absurd (omega (arith, ap length b.1));
  other = λ h. let b = begins (98 ∷ []) h in let same : 98 ≡ 97 = same_first 98 97 [] b.0 b.1 in absurd (omega (arith, same));
  left = inl (97, refl, has_first 97 [], refl);
  right = inr (97, refl, has_first 97 [], refl);
  again = (
    97 ∷ [],
    97 ∷ [],
    refl,
    more (97 ∷ []) (97 ∷ []) [] refl (λ e. cc) (97, refl, has_first 97 []) (none [] refl),
    (97, refl, has_first 97 [], refl),
  );
  no_bytes = λ bytes h. let e = h.1 in none_in e.0 e.2;
}

pub counts_of_positions : HasPositionCounts
counts_of_positions = record {
  words = refl;
  digits = refl;
  scalars = refl;
  differences = refl;
  no_digits = refl;
  white_space = refl;
  lines = refl;
  blocks = refl;
}

-- */ in numbers
abbrev Closing : List ℕ
Closing = 42 ∷ 47 ∷ []

-- no more of the closing text stands in bytes than they have
fits : (bytes : List ℕ) (other : ℕ) → other ≤ 2 → EndWith bytes (take other Closing) → other ≤ length bytes
fits bytes other within h =
    omega (arith, ap length h.1, length-append h.0 (take other Closing), length-take-le other Closing within)

-- in two bytes or fewer the closing text has nothing behind it
nothing_behind : (bytes before behind : List ℕ) → length bytes ≤ 2 → bytes ≡ before ++ (Closing ++ behind) → behind ≡ []
nothing_behind bytes before behind few e =
    nil_from_length behind (omega (arith, few, ap length e, length-append before (Closing ++ behind)))

-- one byte ends with a byte that it is
one_byte : (a b : ℕ) (before : List ℕ) → a ∷ [] ≡ before ++ b ∷ [] → a ≡ b
one_byte a b [] e = cc
one_byte a b (c ∷ before) e = absurd (omega (arith, ap length e, length-append before (b ∷ [])))

-- two bytes end with two bytes that they are
second_byte : (a b c d : ℕ) (before : List ℕ) → a ∷ b ∷ [] ≡ before ++ (c ∷ d ∷ []) → b ≡ d
second_byte a b c d [] e = cc
second_byte a b c d (first ∷ before) e = absurd (omega (arith, ap length e, length-append before (c ∷ d ∷ [])))

none_longer : (other : ℕ) → other ≤ 2 → EndWith (47 ∷ []) (take other Closing) → other ≤ 0
none_longer zero within h = omega arith
none_longer (suc zero) within h = let same : 47 ≡ 42 = one_byte 47 42 h.0 h.1 in absurd (omega (arith, same))
none_longer (suc (suc n)) within h = absurd (omega (arith, fits (47 ∷ []) (suc (suc n)) within h))

again_longer : (other : ℕ) → other ≤ 2 → EndWith (42 ∷ 42 ∷ []) (take other Closing) → other ≤ 1
again_longer zero within h = omega arith
again_longer (suc zero) within h = omega arith
again_longer (suc (suc zero)) within h =
    let same : 42 ≡ 47 = second_byte 42 42 42 47 h.0 h.1 in absurd (omega (arith, same))
again_longer (suc (suc (suc n))) within h = absurd (omega (arith, within))

pub closings_of_comments : ReadsClosings
closings_of_comments = record {
  none = record {
    some = λ e. cc;
    last = λ before behind e. nothing_behind (47 ∷ []) before behind (omega arith) e;
    border = record { within = omega arith; ends = (47 ∷ [], refl); longest = none_longer };
  };
  first = record {
    some = λ e. cc;
    last = λ before behind e. nothing_behind (42 ∷ []) before behind (omega arith) e;
    border = record { within = omega arith; ends = ([], refl); longest = λ other within h. fits (42 ∷ []) other within h };
  };
  again = record {
    some = λ e. cc;
    last = λ before behind e. nothing_behind (42 ∷ 42 ∷ []) before behind (omega arith) e;
    border = record { within = omega arith; ends = (42 ∷ [], refl); longest = again_longer };
  };
  closed = record {
    some = λ e. cc;
    last = λ before behind e. nothing_behind (42 ∷ 47 ∷ []) before behind (omega arith) e;
    border = record { within = omega arith; ends = ([], refl); longest = λ other within h. within };
  };
  behind = λ size h. let rest : 97 ∷ [] ≡ [] = h.last [] (97 ∷ []) refl in absurd (omega (arith, ap length rest));
}

-- the texts a and ab
text : ℕ → List ℕ
text zero = 97 ∷ []
text (suc i) = 97 ∷ 98 ∷ []

leads : (i : ℕ) → i < 2 → LeadsOn word_ab (text i)
unfolding text
leads zero lt = record {
  are_bytes = All-cons (λ b. b < 256) 97 [] (omega arith) (All-nil (λ b. b < 256));
  some = λ e. cc;
  alive = (0, front);
}
leads (suc i) lt = record {
  are_bytes =
      All-cons (λ b. b < 256) 97 (98 ∷ []) (omega arith)
      (All-cons (λ b. b < 256) 98 [] (omega arith) (All-nil (λ b. b < 256)));
  some = λ e. cc;
  alive = (1, whole);
}

differ : (i j : ℕ) → i < j → j < 2 → HaveSamePositions word_ab (text i) (text j) → ⊥
unfolding text
differ zero zero lt lt_j same = absurd (omega (arith, lt))
differ zero (suc j) lt lt_j same = not_first ((same 0).0 front)
differ (suc i) j lt lt_j same = absurd (omega (arith, lt, lt_j))

pub states_of_a_word : CountsStates
states_of_a_word = record {
  two_sets = record { text = text; leads = leads; differ = differ };
  other_byte = record {
    some = omega arith;
    within = omega arith;
    alive = λ fewer some few. absurd (omega (arith, some, few));
    dead = λ within h.
        let b = begins (98 ∷ []) h in
        let same : 98 ≡ 97 = same_first 98 97 [] b.0 b.1 in absurd (omega (arith, same));
  };
  second_byte = record {
    some = omega arith;
    within = omega arith;
    alive = λ fewer some few.
        let one : 1 ≡ fewer = omega (arith, some, few) in
        subst (λ (n : ℕ). HasPosition word_ab (take n (97 ∷ 97 ∷ []))) one (0, front);
    dead = λ within h. let same : 97 ≡ 98 = goes_on 97 [] h in absurd (omega (arith, same));
  };
  at_the_end = record {
    some = omega arith;
    within = omega arith;
    alive = λ fewer some few.
        let one : 1 ≡ fewer = omega (arith, some, few) in
        subst (λ (n : ℕ). HasPosition word_ab (take n (97 ∷ []))) one (0, front);
    dead = λ within h. absurd (omega (arith, within));
  };
}
