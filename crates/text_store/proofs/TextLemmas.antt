-- The tokens of a text as they are read one by one, and what opening a text answers.
use Rattle.std.proofs.Common.{inl, inr, ◌≡◌, ℕ, ◌<◌, ◌≤◌, List, [], ◌∷◌, ◌++◌, length, drop, All, Option, Some, None, Result, Ok, Err, IfSome, IsErrAnd, MatchResult, get_or, slice_get, slice_range, refl, sym, ◌∙◌, ap, subst, arith, append_assoc, length-append}
use Rattle.std.specs.Coded.{Coded-set, coded_list}
use Rattle.std.specs.List.{cons_option}
use Rattle.std.specs.Option.{option_map}
use Rattle.std.specs.Str.{IsUtf8}
use Rattle.std.proofs.Math.Logic.{∥∥₁_elim, ∥∥₁_map}
use Rattle.std.proofs.lemmas.Bool.{cases_lt}
use Rattle.std.proofs.lemmas.Grind.{not_there}
use Rattle.std.proofs.lemmas.List.{append-nil}
use Rattle.std.proofs.lemmas.List.Elements.{All-nil, All-cons, All-append, All-same}
use Rattle.std.proofs.lemmas.Option.{slice_get-get_or}
use Rattle.std.proofs.lemmas.Str.{IsUtf8-had}
use Rattle.spec_text.specs.declared.limits.TheConstants.{MAX_TOKENS}
use Rattle.spec_lexing.specs.declared.token.Token.{Token}
use Rattle.spec_lexing.specs.contracts.token.Token.{the_row as token_row}
use Rattle.spec_lexing.specs.Lexicon.{Lexicon}
use Rattle.spec_lexing.specs.Kinds.{LexKind, MatchesKind, token_kind, lex_kinds}
use Rattle.spec_lexing.specs.Tokens.{Match, AreTokensOf, tokens_of}
use Rattle.spec_lexing.proofs.KindsLemmas.{matches, matches-Decides, some_tokens}
use Rattle.spec_lexing.proofs.LexerByTests.{matches_from, matches_are}
use Rattle.spec_lexing.proofs.TokensLemmas.{no_tokens, one_token_list}
use Rattle.lbnf_regex.specs.Automata.{Machine}
use Rattle.text_store.specs.declared.fault.EditFault.{EditFault}
use Rattle.text_store.specs.declared.fault.EditFault.TheVariants.{Memory, Range, FullText, NotUtf8, FullTokens}
use Rattle.text_store.specs.declared.lexing.Lexeme.{Lexeme}
use Rattle.text_store.specs.TextStore.{TextValue, FitText, IsSoundAutomatonOf, Lexes, LiesIn, OpensBytes, OpensTokens, token_bytes}
use Rattle.text_store.specs.Lexing.{AreTokensBehind, IsTokenIn, MayKeep, Spans, IsLexeme, IsNotKept, IsLexerFault, HasTooMany, IsBytesFault}
use Rattle.text_store.proofs.ScalarTextLemmas.{utf8_between}

-- from each place on there are tokens
tokens_behind : (lexicon : Lexicon) (text : List ℕ) (place : ℕ) → place ≤ length text →
    (tokens : List Token) × AreTokensBehind lexicon text place tokens
tokens_behind lexicon text place within =
    let found : List (Match LexKind) = matches_from matches (lex_kinds lexicon) text (length text) place in (
      tokens_of token_kind found,
      record {
        matches = found;
        are_matches =
            matches_are MatchesKind matches matches-Decides (lex_kinds lexicon) text (length text) place within
            (omega arith);
        kept = refl;
      },
    )

-- the tokens so far, with those behind the place, are those of the text
abbrev pub AreSoFar : Machine → List ℕ → ℕ → List Token → Type 0
AreSoFar a text place tokens =
    (lexicon : Lexicon) → IsSoundAutomatonOf lexicon a → (rest : List Token) →
    AreTokensBehind lexicon text place rest → AreTokensBehind lexicon text 0 (tokens ++ rest)

-- a token that is put behind the others stands before the rest
put_before : (old : List Token) (token : Option Token) (rest : List Token) →
    (old ++ cons_option token []) ++ rest ≡ old ++ cons_option token rest
put_before old None rest = ap (λ (ts : List Token). ts ++ rest) (append-nil old)
put_before old (Some token) rest = append_assoc old (token ∷ []) rest

module _ (a : Machine) (text : List ℕ) (start : ℕ) (lexeme : Lexeme)
    (is_lexeme : (lexicon : Lexicon) → IsSoundAutomatonOf lexicon a → IsUtf8 (drop start text) →
    IsLexeme lexicon text start lexeme) (utf8 : IsUtf8 (drop start text)) (old : List Token)
    (so_far : AreSoFar a text start old) where
  -- the tokens so far, and the lexeme's own
  pub so_far_more : (new : List Token) → new ≡ old ++ cons_option lexeme.token [] → AreSoFar a text lexeme.end new
  so_far_more new put lexicon is rest are =
      subst (AreTokensBehind lexicon text 0)
      (sym (ap (λ (ts : List Token). ts ++ rest) put ∙ put_before old lexeme.token rest))
      (so_far lexicon is (cons_option lexeme.token rest) ((is_lexeme lexicon is utf8).tokens rest are))

  -- where the lexeme's token is not kept, there are too many
  pub too_many : (fault : EditFault) → lexeme.end ≤ length text → IsNotKept old lexeme.token fault →
      (lexicon : Lexicon) → IsSoundAutomatonOf lexicon a → HasTooMany lexicon text fault
  too_many Memory within h lexicon is = tt
  too_many (Range len) within h lexicon is = tt
  too_many (FullText count) within h lexicon is = tt
  too_many (NotUtf8 at) within h lexicon is = tt
  too_many FullTokens within (kept, is_kept, full) lexicon is =
      let behind = tokens_behind lexicon text lexeme.end within in
      let rest : List Token = behind.0 in
      let here : AreTokensBehind lexicon text start (kept ∷ rest) =
      subst (λ (token : Option Token). AreTokensBehind lexicon text start (cons_option token rest)) is_kept
      ((is_lexeme lexicon is utf8).tokens rest behind.1) in (
        old ++ kept ∷ rest,
        so_far lexicon is (kept ∷ rest) here,
        omega (arith, full, length-append old (kept ∷ rest)),
      )

  -- behind the lexeme the text goes on as UTF-8
  pub goes_on : ((lexicon : Lexicon) × Lexes lexicon a) → IsUtf8 (drop lexeme.end text)
  goes_on lexed =
      IsUtf8-had (drop lexeme.end text) (∥∥₁_map lexed.1 (λ is. (is_lexeme lexed.0 is utf8).goes_on))

-- a token that spans bytes between two such places lies in the text
module _ (text : List ℕ) (start end : ℕ) (whole : IsUtf8 text) (before : start < end) (within : end ≤ length text)
    (first : IsUtf8 (drop start text)) (last : IsUtf8 (drop end text)) where
  token_in : (token : Token) → Spans start end token → IsTokenIn text token
  token_in token spans = (
    omega (arith, spans.0, spans.1, before),
    omega (arith, spans.1, within),
    ∣ subst (λ (n : ℕ). IsUtf8 (slice_range text n token.end)) (sym spans.0)
        (subst (λ (n : ℕ). IsUtf8 (slice_range text start n)) (sym spans.1)
        (utf8_between text start end whole (omega (arith, before)) within first last)) ∣₁,
  )

  pub tokens_in : (old : List Token) (token : Option Token) (new : List Token) → All (IsTokenIn text) old →
      IfSome token (Spans start end) → new ≡ old ++ cons_option token [] → All (IsTokenIn text) new
  tokens_in old None new all spans put =
      All-same (IsTokenIn text) new (old ++ []) put (All-append (IsTokenIn text) old [] all (All-nil (IsTokenIn text)))
  tokens_in old (Some token) new all spans put =
      All-same (IsTokenIn text) new (old ++ token ∷ []) put
      (All-append (IsTokenIn text) old (token ∷ []) all
      (All-cons (IsTokenIn text) token [] (token_in token spans) (All-nil (IsTokenIn text))))

-- at the end of the text the tokens so far are all
pub all_read : (a : Machine) (text : List ℕ) (place : ℕ) (tokens : List Token) → AreSoFar a text place tokens →
    place ≡ length text → (lexicon : Lexicon) → IsSoundAutomatonOf lexicon a → AreTokensBehind lexicon text 0 tokens
all_read a text place tokens so_far ended lexicon is =
    subst (AreTokensBehind lexicon text 0) (append-nil tokens)
    (so_far lexicon is [] (no_tokens MatchesKind token_kind (lex_kinds lexicon) text place ended))

-- a token that is not kept is a fault of the lexer
pub lexer_fault : (old : List Token) (token : Option Token) (fault : EditFault) → IsNotKept old token fault → IsLexerFault fault
lexer_fault old token Memory h = tt
lexer_fault old token (Range len) h = h
lexer_fault old token (FullText count) h = h
lexer_fault old token (NotUtf8 at) h = h
lexer_fault old token FullTokens h = tt

-- what opening answers, where the bytes do not fit a text
pub refused_bytes : (bytes : List ℕ) (fault : EditFault) → IsBytesFault bytes fault → OpensBytes bytes (Err fault)
refused_bytes bytes Memory h = absurd h
refused_bytes bytes (Range len) h = h
refused_bytes bytes (FullText count) h = h
refused_bytes bytes (NotUtf8 at) h = h
refused_bytes bytes FullTokens h = absurd h

pub refused_before : (lexicon : Lexicon) (bytes : List ℕ) (fault : EditFault) → IsBytesFault bytes fault →
    OpensTokens lexicon bytes (Err fault)
refused_before lexicon bytes Memory h = tt
refused_before lexicon bytes (Range len) h = tt
refused_before lexicon bytes (FullText count) h = tt
refused_before lexicon bytes (NotUtf8 at) h = tt
refused_before lexicon bytes FullTokens h = absurd h

-- and where the lexer stops
pub lexer_stops : (bytes : List ℕ) (fault : EditFault) → FitText bytes → IsLexerFault fault → OpensBytes bytes (Err fault)
lexer_stops bytes Memory fit h = fit
lexer_stops bytes (Range len) fit h = h
lexer_stops bytes (FullText count) fit h = absurd h
lexer_stops bytes (NotUtf8 at) fit h = absurd h
lexer_stops bytes FullTokens fit h = fit

-- tokens that are merely those of the text are those of the text, which has one list of them
had_tokens : (lexicon : Lexicon) (text : List ℕ) (tokens : List Token) → ∥ AreTokensOf lexicon text tokens ∥₁ →
    AreTokensOf lexicon text tokens
had_tokens lexicon text tokens merely =
    let all = some_tokens lexicon text in
    let same : all.0 ≡ tokens =
    ∥∥₁_elim merely (Coded-set (coded_list token_row.coded) all.0 tokens)
    (λ are. one_token_list MatchesKind token_kind (lex_kinds lexicon) text 0 all.0 tokens all.1 are) in
    subst (AreTokensOf lexicon text) same all.1

-- what opening answers, where the lexer stops at too many tokens
pub stops_full : (lexicon : Lexicon) (a : Machine) (bytes : List ℕ) (fault : EditFault) →
    (IsSoundAutomatonOf lexicon a → HasTooMany lexicon bytes fault) → Lexes lexicon a →
    OpensTokens lexicon bytes (Err fault)
stops_full lexicon a bytes Memory many lexed = tt
stops_full lexicon a bytes (Range len) many lexed = tt
stops_full lexicon a bytes (FullText count) many lexed = tt
stops_full lexicon a bytes (NotUtf8 at) many lexed = tt
stops_full lexicon a bytes FullTokens many lexed =
    let all = some_tokens lexicon bytes in
    elim (cases_lt 16384 (length all.0)) [
      | inl more ↦ (all.0, all.1, more)
      | inr few ↦
          absurd (not_there lexed (λ is.
          let h = many is in
          let same : all.0 ≡ h.0 =
          one_token_list MatchesKind token_kind (lex_kinds lexicon) bytes 0 all.0 h.0 all.1 h.1 in
          omega (arith, h.2, few, ap length same)))
    ]

-- and where it reads all tokens
pub opened_tokens : (lexicon : Lexicon) (a : Machine) (bytes : List ℕ) (tokens : List Token) →
    (IsSoundAutomatonOf lexicon a → AreTokensBehind lexicon bytes 0 tokens) → Lexes lexicon a →
    AreTokensOf lexicon bytes tokens
opened_tokens lexicon a bytes tokens are lexed = had_tokens lexicon bytes tokens (∥∥₁_map lexed are)

-- the same where the text is seen as other bytes, which are equal
module _ (lexicon : Lexicon) (a : Machine) (bytes own : List ℕ) (is : own ≡ bytes) (lexed : Lexes lexicon a) where
  pub seen_stops : (fault : EditFault) → (IsSoundAutomatonOf lexicon a → HasTooMany lexicon own fault) →
      OpensTokens lexicon bytes (Err fault)
  seen_stops fault many =
      subst (λ (b : List ℕ). OpensTokens lexicon b (Err fault)) is (stops_full lexicon a own fault many lexed)

  pub seen_tokens : (tokens : List Token) → (IsSoundAutomatonOf lexicon a → AreTokensBehind lexicon own 0 tokens) →
      AreTokensOf lexicon bytes tokens
  seen_tokens tokens are =
      subst (λ (b : List ℕ). AreTokensOf lexicon b tokens) is (opened_tokens lexicon a own tokens are lexed)

-- bytes and tokens that were read may be kept
pub read_kept : (bytes own : List ℕ) (tokens : List Token) → own ≡ bytes → FitText bytes →
    length tokens ≤ MAX_TOKENS → All (IsTokenIn own) tokens → MayKeep bytes tokens
read_kept bytes own tokens is fit few within = (
  fit.few,
  few,
  subst (λ (b : List ℕ). All (IsTokenIn b) tokens) is within,
  ∣ fit.utf8 ∣₁,
)

-- a fault that is known
pub at_fault : {T : Type 0} → (P : T → Type 0) (Q : EditFault → Type 0) (fault : EditFault) (r : Result T EditFault) →
    IsErrAnd r (λ x. x ≡ fault) → Q fault → MatchResult r P Q
at_fault P Q fault (Ok x) h q = absurd h
at_fault P Q fault (Err other) h q = subst Q (sym h) q

pub at_refusal : (lexicon : Lexicon) (bytes : List ℕ) (fault : EditFault) (r : Result TextValue EditFault) →
    IsErrAnd r (λ x. x ≡ fault) → OpensTokens lexicon bytes (Err fault) → OpensTokens lexicon bytes r
at_refusal lexicon bytes fault (Ok text) h q = absurd h
at_refusal lexicon bytes fault (Err other) h q =
    subst (λ (f : EditFault). OpensTokens lexicon bytes (Err f)) (sym h) q

-- copies may be kept as what they are copies of
pub copies_kept : (bytes own : List ℕ) (tokens own_tokens : List Token) → own ≡ bytes → own_tokens ≡ tokens →
    MayKeep bytes tokens → MayKeep own own_tokens
copies_kept bytes own tokens own_tokens same same_tokens kept =
    subst (λ (b : List ℕ). MayKeep b own_tokens) (sym same)
    (subst (λ (ts : List Token). MayKeep bytes ts) (sym same_tokens) kept)

-- the bytes of a token that is kept are UTF-8
pub token_utf8 : (bytes : List ℕ) (tokens : List Token) (i : ℕ) (token : Token) → MayKeep bytes tokens →
    i < length tokens → token ≡ get_or tokens i token → IsUtf8 (token_bytes bytes token)
token_utf8 bytes tokens i token kept within is =
    let there : IsTokenIn bytes (get_or tokens i token) = kept.2 i token within in
    IsUtf8-had (token_bytes bytes token)
    (subst (λ (t : Token). ∥ IsUtf8 (token_bytes bytes t) ∥₁) (sym is) there.2)

-- the tokens that are kept lie in the bytes
pub tokens_lie_in : (bytes : List ℕ) (tokens : List Token) → MayKeep bytes tokens → All (LiesIn bytes) tokens
tokens_lie_in bytes tokens kept k d below =
    let there : IsTokenIn bytes (get_or tokens k d) = kept.2 k d below in
    (there.0, there.1)

-- what is told of the token at a place
pub token_told : (bytes : List ℕ) (tokens : List Token) (i : ℕ) (token : Token) (name : List ℕ) → i < length tokens →
    token ≡ get_or tokens i token → name ≡ token_bytes bytes token →
    option_map (token_bytes bytes) (slice_get tokens i) ≡ Some name
token_told bytes tokens i token name within is e =
    ap (option_map (token_bytes bytes)) (slice_get-get_or tokens i token within)
    ∙ ap (λ (t : Token). Some (token_bytes bytes t)) (sym is) ∙ ap Some (sym e)
