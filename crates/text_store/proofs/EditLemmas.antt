-- What editing a text answers, by its steps.
use Rattle.std.proofs.Common.{◌≡◌, ℕ, ◌+◌, ◌-◌, ◌≤◌, List, ◌++◌, length, take, drop, Some, None, Ok, Err, sym, ◌∙◌, ap, subst, arith, length-append}
use Rattle.std.specs.Str.{IsUtf8}
use Rattle.std.proofs.lemmas.List.{length-take-le, length-drop}
use Rattle.std.proofs.lemmas.Str.{IsUtf8-append, IsUtf8-take, IsUtf8-drop, IsUtf8-had}
use Rattle.spec_lexing.specs.Lexicon.{Lexicon}
use Rattle.text_store.specs.declared.fault.EditFault.{EditFault}
use Rattle.text_store.specs.declared.fault.EditFault.TheVariants.{Memory, Range, FullText, NotUtf8, FullTokens}
use Rattle.text_store.specs.declared.token_edit.TokenEdit.{TokenEdit}
use Rattle.text_store.specs.TextStore.{TextValue, FitText, OpensTokens}
use Rattle.text_store.specs.TextEdits.{edited_len, IsSizeFault, edited, HasRoom, CutsNone, EditsBytes, EditsTokens}
use Rattle.text_store.specs.Lexing.{IsCutFault, IsLexerFault}

-- an edit that cuts no scalar of UTF-8 leaves UTF-8
pub keeps_utf8 : (old : List ℕ) (at deleted : ℕ) (inserted : List ℕ) → IsUtf8 old →
    CutsNone old at deleted inserted → IsUtf8 (edited old at deleted inserted)
keeps_utf8 old at deleted inserted utf8 cuts =
    IsUtf8-append (take at old) (inserted ++ drop (at + deleted) old) (IsUtf8-take old at utf8 cuts.before)
    (IsUtf8-append inserted (drop (at + deleted) old) cuts.inserts
    (IsUtf8-drop old (at + deleted) utf8 cuts.behind))

module _ (old : List ℕ) (at deleted : ℕ) (inserted : List ℕ) where
  -- how many bytes the edited text has
  pub edited_size : at + deleted ≤ length old →
      length (edited old at deleted inserted) ≡ edited_len (length old) deleted (length inserted)
  edited_size within =
      let front : length (take at old) ≡ at = length-take-le at old (omega (arith, within)) in
      let back : length (drop (at + deleted) old) ≡ length old - (at + deleted) = length-drop (at + deleted) old in
      let tail = length-append inserted (drop (at + deleted) old) in
      let all = length-append (take at old) (inserted ++ drop (at + deleted) old) in
      omega (arith, front, back, tail, all, within)

  -- where the numbers keep the edit from being made
  pub refused_size : (fault : EditFault) → IsSizeFault (length old) at deleted (length inserted) (Some fault) →
      EditsBytes old at deleted inserted (Err fault)
  refused_size Memory h = absurd h
  refused_size (Range len) h = h
  refused_size (FullText count) h =
      let size = edited_size h.0 in
      (h.0, omega (arith, h.1, size), h.2 ∙ sym size)
  refused_size (NotUtf8 place) h = absurd h
  refused_size FullTokens h = absurd h

  -- and where they do not
  pub has_room : IsSizeFault (length old) at deleted (length inserted) None → HasRoom old at deleted inserted
  has_room h = record { within = h.0; few = omega (arith, h.1, edited_size h.0) }

  -- where a scalar is cut
  pub refused_cut : (fault : EditFault) → HasRoom old at deleted inserted →
      IsCutFault old at deleted inserted fault → EditsBytes old at deleted inserted (Err fault)
  refused_cut Memory room h = absurd h
  refused_cut (Range len) room h = absurd h
  refused_cut (FullText count) room h = absurd h
  refused_cut (NotUtf8 place) room h = (room, h)
  refused_cut FullTokens room h = absurd h

  -- where the lexer stops
  pub refused_lexed : (fault : EditFault) → HasRoom old at deleted inserted → CutsNone old at deleted inserted →
      IsLexerFault fault → EditsBytes old at deleted inserted (Err fault)
  refused_lexed Memory room cuts h = (room, cuts)
  refused_lexed (Range len) room cuts h = absurd h
  refused_lexed (FullText count) room cuts h = absurd h
  refused_lexed (NotUtf8 place) room cuts h = absurd h
  refused_lexed FullTokens room cuts h = (room, cuts)

  -- the edited bytes fit a text
  pub fit_text : (bytes : List ℕ) → bytes ≡ edited old at deleted inserted → HasRoom old at deleted inserted →
      CutsNone old at deleted inserted → IsUtf8 old → FitText bytes
  fit_text bytes is room cuts utf8 =
      subst FitText (sym is)
      (record { few = room.few; utf8 = keeps_utf8 old at deleted inserted utf8 cuts })

  -- a fault that is not of the tokens says nothing of them
  pub no_tokens_size : (lexicon : Lexicon) (fault : EditFault) →
      IsSizeFault (length old) at deleted (length inserted) (Some fault) →
      EditsTokens lexicon (edited old at deleted inserted) (Err fault)
  no_tokens_size lexicon Memory h = tt
  no_tokens_size lexicon (Range len) h = tt
  no_tokens_size lexicon (FullText count) h = tt
  no_tokens_size lexicon (NotUtf8 place) h = tt
  no_tokens_size lexicon FullTokens h = absurd h

  pub no_tokens_cut : (lexicon : Lexicon) (fault : EditFault) → IsCutFault old at deleted inserted fault →
      EditsTokens lexicon (edited old at deleted inserted) (Err fault)
  no_tokens_cut lexicon Memory h = tt
  no_tokens_cut lexicon (Range len) h = tt
  no_tokens_cut lexicon (FullText count) h = tt
  no_tokens_cut lexicon (NotUtf8 place) h = tt
  no_tokens_cut lexicon FullTokens h = absurd h

-- the tokens of the edited bytes are told as those of a text that is opened with them
pub tokens_stop : (lexicon : Lexicon) (bytes own : List ℕ) (fault : EditFault) → own ≡ bytes →
    OpensTokens lexicon own (Err fault) → EditsTokens lexicon bytes (Err fault)
tokens_stop lexicon bytes own Memory is h = tt
tokens_stop lexicon bytes own (Range len) is h = tt
tokens_stop lexicon bytes own (FullText count) is h = tt
tokens_stop lexicon bytes own (NotUtf8 place) is h = tt
tokens_stop lexicon bytes own FullTokens is h =
    subst (λ (b : List ℕ). EditsTokens lexicon b (Err FullTokens)) is h

pub tokens_told : (lexicon : Lexicon) (bytes own : List ℕ) (text : TextValue) (edit : TokenEdit) → own ≡ bytes →
    OpensTokens lexicon own (Ok text) → EditsTokens lexicon bytes (Ok (text, edit))
tokens_told lexicon bytes own text edit is h =
    subst (λ (b : List ℕ). EditsTokens lexicon b (Ok (text, edit))) is h

-- the edited bytes fit a text, as each step tells it
pub edited_fit : (old cut_text spliced_text : List ℕ) (at deleted : ℕ) (inserted bytes : List ℕ) → cut_text ≡ old →
    spliced_text ≡ old → ∥ IsUtf8 old ∥₁ → IsSizeFault (length old) at deleted (length inserted) None →
    CutsNone cut_text at deleted inserted → bytes ≡ edited spliced_text at deleted inserted → FitText bytes
edited_fit old cut_text spliced_text at deleted inserted bytes is_cut is_spliced utf8 size cuts is =
    fit_text old at deleted inserted bytes
    (is ∙ ap (λ (text : List ℕ). edited text at deleted inserted) is_spliced)
    (has_room old at deleted inserted size)
    (subst (λ (text : List ℕ). CutsNone text at deleted inserted) is_cut cuts) (IsUtf8-had old utf8)
