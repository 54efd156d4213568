-- A text is refused with one line, and so is an edit of it; each is refused or not.
use Rattle.std.proofs.Common.{◌≡◌, ℕ, ◌+◌, ◌<◌, ◌≤◌, ◌⊎◌, inl, inr, List, [], ◌∷◌, ◌++◌, length, refl, sym, ◌∙◌, ap, subst, arith, length-append, drop}
use Rattle.std.specs.Str.{IsUtf8, IsCharBoundary}
use Rattle.std.specs.Str.Lossy.{utf8_valid_len}
use Rattle.std.proofs.lemmas.Bool.{cases_lt}
use Rattle.spec_text.specs.declared.limits.TheConstants.{MAX_TOKENS}
use Rattle.spec_lexing.specs.declared.token.Token.{Token}
use Rattle.spec_lexing.specs.Lexicon.{Lexicon}
use Rattle.spec_lexing.specs.Kinds.{MatchesKind, token_kind, lex_kinds}
use Rattle.spec_lexing.specs.Tokens.{AreTokensOf}
use Rattle.spec_lexing.proofs.TokensLemmas.{one_token_list}
use Rattle.spec_lexing.proofs.KindsLemmas.{some_tokens}
use Rattle.spec_script.specs.declared.limits.TheConstants.{MAX_BLOCK}
use Rattle.spec_session.specs.TextRefusals.{full_line, range_line, utf8_line, IsFitText, HasTokens, HasTooManyTokens}
use Rattle.spec_session.specs.TextRefusals.{IsTextRefused, too_many_bytes, not_utf8, too_many_tokens}
use Rattle.spec_session.specs.TextRefusals.{edited, HasRoom, KeepsScalars, IsWrongAt, cuts_first, cuts_last, inserts_wrong}
use Rattle.spec_session.specs.TextRefusals.{IsEditRefused, out_of_range, grows_too_long, wrong_bytes, gets_too_many_tokens}
use Rattle.spec_session.proofs.DenialLemmas.{IsUndeniable, decided}

module _ (lexicon : Lexicon) (text : List ℕ) where
  -- a text has one list of tokens under a lexicon
  pub same_tokens : (tokens others : List Token) → AreTokensOf lexicon text tokens → AreTokensOf lexicon text others →
      tokens ≡ others
  same_tokens tokens others h k = one_token_list MatchesKind token_kind (lex_kinds lexicon) text 0 tokens others h k

  -- it has too many, or not
  pub few_or_many : (tokens : List Token) → HasTokens lexicon text tokens → HasTooManyTokens lexicon text → ⊥
  few_or_many tokens h k =
      let same : length tokens ≡ length k.0 = ap length (same_tokens tokens k.0 h.are_tokens k.1) in
      omega (arith, same, h.few, k.2)

  -- a text is refused with one line
  pub one_text_refusal : (line other : List ℕ) → IsTextRefused lexicon text line → IsTextRefused lexicon text other →
      line ≡ other
  one_text_refusal line other (too_many_bytes many e) (too_many_bytes many' f) = e ∙ sym f
  one_text_refusal line other (too_many_bytes many e) (not_utf8 few wrong f) = absurd (omega (arith, many, few))
  one_text_refusal line other (too_many_bytes many e) (too_many_tokens fit tokens f) =
      absurd (omega (arith, many, fit.few))
  one_text_refusal line other (not_utf8 few wrong e) (too_many_bytes many f) = absurd (omega (arith, many, few))
  one_text_refusal line other (not_utf8 few wrong e) (not_utf8 few' wrong' f) = e ∙ sym f
  one_text_refusal line other (not_utf8 few wrong e) (too_many_tokens fit tokens f) = absurd (wrong fit.utf8)
  one_text_refusal line other (too_many_tokens fit tokens e) (too_many_bytes many f) =
      absurd (omega (arith, many, fit.few))
  one_text_refusal line other (too_many_tokens fit tokens e) (not_utf8 few wrong f) = absurd (wrong fit.utf8)
  one_text_refusal line other (too_many_tokens fit tokens e) (too_many_tokens fit' tokens' f) = e ∙ sym f

  -- a text that fits and has few enough tokens is not refused
  pub text_or_refusal : (line : List ℕ) (tokens : List Token) → IsFitText text → HasTokens lexicon text tokens →
      IsTextRefused lexicon text line → ⊥
  text_or_refusal line tokens fit h (too_many_bytes many e) = omega (arith, many, fit.few)
  text_or_refusal line tokens fit h (not_utf8 few wrong e) = wrong fit.utf8
  text_or_refusal line tokens fit h (too_many_tokens fit' many e) = few_or_many tokens h many

  -- it has few enough tokens, or too many
  pub tokens_or_many : ((tokens : List Token) × HasTokens lexicon text tokens) ⊎ HasTooManyTokens lexicon text
  tokens_or_many =
      let some = some_tokens lexicon text in
      elim (cases_lt MAX_TOKENS (length some.0)) [
        | inl many ↦ inr (some.0, some.1, many)
        | inr few ↦ inl (some.0, record { are_tokens = some.1; few = few })
      ]

  -- the text is opened with some tokens, or refused with some line
  abbrev pub IsOpenedOrRefused : Type 0
  IsOpenedOrRefused =
      (IsFitText text × ((tokens : List Token) × HasTokens lexicon text tokens))
      ⊎ ((line : List ℕ) × IsTextRefused lexicon text line)

  -- where it fits
  fit_opened : IsFitText text → IsOpenedOrRefused
  fit_opened fit = elim tokens_or_many [
    | inl tokens ↦ inl (fit, tokens)
    | inr many ↦ inr (full_line, too_many_tokens fit many refl)
  ]

  -- which cannot be denied
  pub opened_or_refused : IsUndeniable IsOpenedOrRefused
  opened_or_refused denied =
      elim (cases_lt MAX_BLOCK (length text)) [
        | inl many ↦ denied (inr (full_line, too_many_bytes many refl))
        | inr few ↦
            decided (IsUtf8 text) (λ (split : IsUtf8 text ⊎ (IsUtf8 text → ⊥)). elim split [
              | inl utf8 ↦ denied (fit_opened (record { few = few; utf8 = utf8 }))
              | inr wrong ↦ denied (inr (utf8_line (utf8_valid_len text), not_utf8 few wrong refl))
            ])
      ]

module _ (text : List ℕ) (at deleted : ℕ) (inserted : List ℕ) where
  -- an edit is wrong at one place
  one_wrong_place : (place other : ℕ) → IsWrongAt text at deleted inserted place →
      IsWrongAt text at deleted inserted other → place ≡ other
  one_wrong_place place other (cuts_first a e) (cuts_first b f) = e ∙ sym f
  one_wrong_place place other (cuts_first a e) (cuts_last b c f) = absurd (a b)
  one_wrong_place place other (cuts_first a e) (inserts_wrong b c d f) = absurd (a b)
  one_wrong_place place other (cuts_last a b e) (cuts_first c f) = absurd (c a)
  one_wrong_place place other (cuts_last a b e) (cuts_last c d f) = e ∙ sym f
  one_wrong_place place other (cuts_last a b e) (inserts_wrong c d w f) = absurd (b d)
  one_wrong_place place other (inserts_wrong a b w e) (cuts_first c f) = absurd (c a)
  one_wrong_place place other (inserts_wrong a b w e) (cuts_last c d f) = absurd (d b)
  one_wrong_place place other (inserts_wrong a b w e) (inserts_wrong c d w' f) = e ∙ sym f

  -- one that keeps scalars is wrong at none
  kept_or_wrong : (place : ℕ) → KeepsScalars text at deleted inserted → IsWrongAt text at deleted inserted place → ⊥
  kept_or_wrong place keeps (cuts_first a e) = a keeps.before
  kept_or_wrong place keeps (cuts_last a b e) = b keeps.behind
  kept_or_wrong place keeps (inserts_wrong a b w e) = w keeps.inserts

  -- that it keeps them or is wrong at some place cannot be denied
  abbrev KeptOrWrong : Type 0
  KeptOrWrong = KeepsScalars text at deleted inserted ⊎ ((place : ℕ) × IsWrongAt text at deleted inserted place)

  kept_or_not : IsUndeniable KeptOrWrong
  kept_or_not denied =
      let First : Type 0 = IsCharBoundary text at in
      let Last : Type 0 = IsCharBoundary text (at + deleted) in
      let Inserts : Type 0 = IsUtf8 inserted in
      decided First (λ (first : First ⊎ (First → ⊥)). elim first [
        | inr cut ↦ denied (inr (at, cuts_first cut refl))
        | inl before ↦ decided Last (λ (last : Last ⊎ (Last → ⊥)). elim last [
          | inr cut ↦ denied (inr (at + deleted, cuts_last before cut refl))
          | inl behind ↦ decided Inserts (λ (new : Inserts ⊎ (Inserts → ⊥)). elim new [
            | inr wrong ↦ denied (inr (at + utf8_valid_len inserted, inserts_wrong before behind wrong refl))
            | inl inserts ↦ denied (inl (record { before = before; behind = behind; inserts = inserts }))
          ])
        ])
      ])

  module _ (lexicon : Lexicon) where
    -- an edit is refused with one line
    pub one_edit_refusal : (line other : List ℕ) → IsEditRefused text at deleted inserted lexicon line →
        IsEditRefused text at deleted inserted lexicon other → line ≡ other
    one_edit_refusal line other (out_of_range a e) (out_of_range b f) = e ∙ sym f
    one_edit_refusal line other (out_of_range a e) (grows_too_long b many f) = absurd (omega (arith, a, b))
    one_edit_refusal line other (out_of_range a e) (wrong_bytes place room w f) = absurd (omega (arith, a, room.within))
    one_edit_refusal line other (out_of_range a e) (gets_too_many_tokens room keeps many f) =
        absurd (omega (arith, a, room.within))
    one_edit_refusal line other (grows_too_long a many e) (out_of_range b f) = absurd (omega (arith, a, b))
    one_edit_refusal line other (grows_too_long a many e) (grows_too_long b many' f) = e ∙ sym f
    one_edit_refusal line other (grows_too_long a many e) (wrong_bytes place room w f) =
        absurd (omega (arith, many, room.few))
    one_edit_refusal line other (grows_too_long a many e) (gets_too_many_tokens room keeps tokens f) =
        absurd (omega (arith, many, room.few))
    one_edit_refusal line other (wrong_bytes place room w e) (out_of_range b f) =
        absurd (omega (arith, b, room.within))
    one_edit_refusal line other (wrong_bytes place room w e) (grows_too_long b many f) =
        absurd (omega (arith, many, room.few))
    one_edit_refusal line other (wrong_bytes place room w e) (wrong_bytes place' room' w' f) =
        e ∙ ap utf8_line (one_wrong_place place place' w w') ∙ sym f
    one_edit_refusal line other (wrong_bytes place room w e) (gets_too_many_tokens room' keeps many f) =
        absurd (kept_or_wrong place keeps w)
    one_edit_refusal line other (gets_too_many_tokens room keeps tokens e) (out_of_range b f) =
        absurd (omega (arith, b, room.within))
    one_edit_refusal line other (gets_too_many_tokens room keeps tokens e) (grows_too_long b many f) =
        absurd (omega (arith, many, room.few))
    one_edit_refusal line other (gets_too_many_tokens room keeps tokens e) (wrong_bytes place room' w f) =
        absurd (kept_or_wrong place keeps w)
    one_edit_refusal line other (gets_too_many_tokens room keeps many e) (gets_too_many_tokens room' keeps' many' f) =
        e ∙ sym f

    -- the tokens of the edited text
    abbrev pub HasEditedTokens : List Token → Type 0
    HasEditedTokens tokens = HasTokens lexicon (edited text at deleted inserted) tokens

    -- an edit that has room, keeps scalars and leaves few enough tokens is not refused
    pub edit_or_refusal : (line : List ℕ) (tokens : List Token) → HasRoom text at deleted inserted →
        KeepsScalars text at deleted inserted → HasEditedTokens tokens →
        IsEditRefused text at deleted inserted lexicon line → ⊥
    edit_or_refusal line tokens room keeps h (out_of_range a e) = omega (arith, a, room.within)
    edit_or_refusal line tokens room keeps h (grows_too_long a many e) = omega (arith, many, room.few)
    edit_or_refusal line tokens room keeps h (wrong_bytes place room' w e) = kept_or_wrong place keeps w
    edit_or_refusal line tokens room keeps h (gets_too_many_tokens room' keeps' many e) =
        few_or_many lexicon (edited text at deleted inserted) tokens h many

    -- the text is edited so, with some tokens, or the edit is refused with some line
    abbrev pub IsEditedOrRefused : Type 0
    IsEditedOrRefused =
        (HasRoom text at deleted inserted × KeepsScalars text at deleted inserted
        × ((tokens : List Token) × HasEditedTokens tokens))
        ⊎ ((line : List ℕ) × IsEditRefused text at deleted inserted lexicon line)

    -- where there is room, and no scalar is cut
    kept_edited : HasRoom text at deleted inserted → KeepsScalars text at deleted inserted → IsEditedOrRefused
    kept_edited room keeps = elim (tokens_or_many lexicon (edited text at deleted inserted)) [
      | inl tokens ↦ inl (room, keeps, tokens)
      | inr many ↦ inr (full_line, gets_too_many_tokens room keeps many refl)
    ]

    -- where there is room
    room_edited : HasRoom text at deleted inserted → IsUndeniable IsEditedOrRefused
    room_edited room denied =
        kept_or_not (λ (split : KeptOrWrong). elim split [
          | inl keeps ↦ denied (kept_edited room keeps)
          | inr wrong ↦ denied (inr (utf8_line wrong.0, wrong_bytes wrong.0 room wrong.1 refl))
        ])

    -- which cannot be denied
    pub edited_or_refused : IsUndeniable IsEditedOrRefused
    edited_or_refused denied =
        elim (cases_lt (length text) (at + deleted)) [
          | inl out ↦ denied (inr (range_line (length text), out_of_range out refl))
          | inr within ↦
              elim (cases_lt MAX_BLOCK (length (edited text at deleted inserted))) [
                | inl many ↦ denied (inr (full_line, grows_too_long within many refl))
                | inr few ↦ room_edited (record { within = within; few = few }) denied
              ]
        ]
