-- The lexicon of the one word `a` has few states: of texts that lead on, one is the word and all others are
-- white bytes.
use Rattle.std.proofs.Common.{◌≡◌, ℕ, ◌<◌, ◌⊎◌, inl, inr, List, [], ◌∷◌, codes, true, refl, sym, ◌∙◌, ap, subst, arith}
use Rattle.std.specs.List.{Contains}
use Rattle.spec_text.specs.Bytes.{is_white}
use Rattle.spec_lexing.specs.declared.kind_def.KindDef.TheVariants.{Word}
use Rattle.spec_lexing.specs.Lexicon.{lexicon_of}
use Rattle.spec_lexing.specs.Kinds.{lex_kinds}
use Rattle.spec_automata.specs.ByteExpressions.{ByteExpression}
use Rattle.spec_automata.specs.Encoding.{bytes_that, bytes_of_kinds}
use Rattle.spec_automata.specs.Positions.{IsPositionOf, HasPosition}
use Rattle.spec_automata.specs.States.{HaveSamePositions, HasTooManyStates}
use Rattle.spec_automata.proofs.ByteSetLemmas.{none_in, first_or_behind, has_first, in_bytes_that}

-- white space, or the word
abbrev looked_for : ByteExpression
looked_for = bytes_of_kinds (lex_kinds (lexicon_of (Word (codes "a") ∷ [])))

-- the text is one white byte
abbrev IsWhiteText : List ℕ → Type 0
IsWhiteText text = (byte : ℕ) × (text ≡ byte ∷ []) × Contains (bytes_that is_white) byte

-- the text is the word
abbrev IsWordText : List ℕ → Type 0
IsWordText text = text ≡ 97 ∷ []

-- each of the two has a position of its own
by_position : (text : List ℕ) (p : ℕ) → IsPositionOf looked_for text p →
    (IsWhiteText text × (p ≡ 0)) ⊎ (IsWordText text × (p ≡ 1))
by_position text p (inl e) = inl ((e.0, e.1, e.2), e.3)
by_position text p (inr (inl (inl e))) =
    let same : 97 ≡ e.0 = elim (first_or_behind 97 [] e.0 e.2) [
      | inl same ↦ same
      | inr behind ↦ absurd (none_in e.0 behind)
    ] in
    inr (e.1 ∙ ap (λ (b : ℕ). b ∷ []) (sym same), e.3)
by_position text p (inr (inl (inr e))) = absurd e.4
by_position text p (inr (inr e)) = absurd e

white_position : (text : List ℕ) → IsWhiteText text → IsPositionOf looked_for text 0
white_position text h = inl (h.0, h.1, h.2, refl)

word_position : (text : List ℕ) → IsWordText text → IsPositionOf looked_for text 1
word_position text h = inr (inl (inl (97, h, has_first 97 [], refl)))

-- the word is no white byte
not_both : (text : List ℕ) → IsWhiteText text → IsWordText text → ⊥
not_both text white word =
    let one : white.0 ∷ [] ≡ 97 ∷ [] = sym white.1 ∙ word in
    let same : white.0 ≡ 97 = cc in
    let has : is_white 97 ≡ true =
    ((in_bytes_that is_white 97).0 (subst (Contains (bytes_that is_white)) same white.2)).1 in
    cc

-- texts of one sort have the same positions
white_to : (text other : List ℕ) → IsWhiteText text → IsWhiteText other → (p : ℕ) →
    IsPositionOf looked_for text p → IsPositionOf looked_for other p
white_to text other h k p at = elim (by_position text p at) [
  | inl white ↦ subst (IsPositionOf looked_for other) (sym white.1) (white_position other k)
  | inr word ↦ absurd (not_both text h word.0)
]

word_to : (text other : List ℕ) → IsWordText text → IsWordText other → (p : ℕ) →
    IsPositionOf looked_for text p → IsPositionOf looked_for other p
word_to text other h k p at = elim (by_position text p at) [
  | inl white ↦ absurd (not_both text white.0 h)
  | inr word ↦ subst (IsPositionOf looked_for other) (sym word.1) (word_position other k)
]

same_white : (text other : List ℕ) → IsWhiteText text → IsWhiteText other → HaveSamePositions looked_for text other
same_white text other h k p = (white_to text other h k p, white_to other text k h p)

same_word : (text other : List ℕ) → IsWordText text → IsWordText other → HaveSamePositions looked_for text other
same_word text other h k p = (word_to text other h k p, word_to other text k h p)

-- a text that leads on is of one of the two sorts
sort_of : (text : List ℕ) → HasPosition looked_for text → IsWhiteText text ⊎ IsWordText text
sort_of text h = elim (by_position text h.0 h.1) [ inl white ↦ inl white.0 | inr word ↦ inr word.0 ]

-- so of three texts two have the same positions
pub few_states : HasTooManyStates (lexicon_of (Word (codes "a") ∷ [])) → ⊥
few_states many = by_sorts (sort 0 (omega arith)) (sort 1 (omega arith)) (sort 2 (omega arith))
  where
    sort : (i : ℕ) → i < 1023 → IsWhiteText (many.text i) ⊎ IsWordText (many.text i)
    sort i lt = sort_of (many.text i) (many.leads i lt).alive

    by_sorts : IsWhiteText (many.text 0) ⊎ IsWordText (many.text 0) → IsWhiteText (many.text 1) ⊎ IsWordText (many.text 1) →
        IsWhiteText (many.text 2) ⊎ IsWordText (many.text 2) → ⊥
    by_sorts (inl a) (inl b) c = many.differ 0 1 (omega arith) (omega arith) (same_white (many.text 0) (many.text 1) a b)
    by_sorts (inl a) (inr b) (inl c) =
        many.differ 0 2 (omega arith) (omega arith) (same_white (many.text 0) (many.text 2) a c)
    by_sorts (inl a) (inr b) (inr c) =
        many.differ 1 2 (omega arith) (omega arith) (same_word (many.text 1) (many.text 2) b c)
    by_sorts (inr a) (inl b) (inl c) =
        many.differ 1 2 (omega arith) (omega arith) (same_white (many.text 1) (many.text 2) b c)
    by_sorts (inr a) (inl b) (inr c) =
        many.differ 0 2 (omega arith) (omega arith) (same_word (many.text 0) (many.text 2) a c)
    by_sorts (inr a) (inr b) c = many.differ 0 1 (omega arith) (omega arith) (same_word (many.text 0) (many.text 1) a b)
