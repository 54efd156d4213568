-- The text that a command makes, what a session answers to the command, and the state that it may be
-- in then.
use Rattle.std.proofs.Common.{◌≡◌, ℕ, zero, suc, ◌+◌, ◌<◌, ◌≤◌, List, [], ◌∷◌, ◌++◌, length, Option, Some, None, is_some}
use Rattle.std.proofs.Common.{true, false, Result, Ok, Err, IfOk, String, string_bytes, refl, sym, ◌∙◌, ap, subst, arith, length-append}
use Rattle.std.proofs.lemmas.Str.{utf8_valid_len-IsUtf8}
use Rattle.std.specs.declared.alloc.Global.{Global}
use Rattle.std.specs.declared.alloc.AllocError.{AllocError}
use Rattle.spec_grammar.specs.Grammars.{Grammar, HasDistinctNames}
use Rattle.spec_lexing.specs.Lexicon.{Lexicon}
use Rattle.text_store.specs.TextStore.{TextValue, OpensBytes, OpensTokens}
use Rattle.text_store.specs.TextEdits.{IsSizeFault, HasRoom as StoreRoom, CutsNone, IsCutAt, EditsBytes, EditsTokens}
use Rattle.text_store.specs.TextEdits.{cuts_first as StoreFirst, cuts_last as StoreLast, inserts_wrong as StoreInserts}
use Rattle.text_store.specs.declared.fault.EditFault.{EditFault}
use Rattle.text_store.specs.declared.fault.EditFault.TheVariants as store
use Rattle.text_store.specs.declared.token_edit.TokenEdit.{TokenEdit}
use Rattle.text_store.proofs.EditLemmas.{edited_size}
use Rattle.spec_script.specs.declared.limits.TheConstants.{MAX_BLOCK}
use Rattle.spec_script.specs.Script.{Command, Query, opens, edits, ask}
use Rattle.spec_session.specs.TextRefusals.{IsTextRefused, HasTokens, too_many_bytes, not_utf8, too_many_tokens}
use Rattle.spec_session.specs.TextRefusals.{edited, HasRoom, KeepsScalars, IsWrongAt, cuts_first, cuts_last, inserts_wrong}
use Rattle.spec_session.specs.TextRefusals.{IsEditRefused, out_of_range, grows_too_long, wrong_bytes, gets_too_many_tokens}
use Rattle.spec_session.specs.Steps.{State, no_texts, with_text, IsCurrent, IsClosed, IsOpen, IsReply, version_reply}
use Rattle.spec_session.specs.Steps.{open_already, not_opened, opened, none_to_edit, not_edited, is_edited, none_to_ask, answered}
use Rattle.valiant.specs.Charts.{ChartValue}
use Rattle.chart_service.specs.declared.outcomes.Opened.{Opened}
use Rattle.chart_service.specs.declared.outcomes.Refusal.TheVariants.{Closed, Open}
use Rattle.chart_service.specs.declared.outcomes.SessionFault.{SessionFault}
use Rattle.chart_service.specs.declared.outcomes.SessionFault.TheVariants.{Memory, Refused}
use Rattle.chart_service.specs.declared.version.Version.{Version}
use Rattle.chart_service.specs.declared.reply.Reply.{Reply}
use Rattle.chart_service.specs.Sessions.{SessionValue, count_up_to, version_count, IsLastOf, IsIn, HasReply}
use Rattle.chart_service.specs.Sessions.{refused_line, IsNextOf, AnswersCommand, IsBlockOf, IsOpened}
use Rattle.chart_service.specs.Texts.{version_seen, session_of, KeepsVersion, session_fault, TellsRefusal, MakesText}
use Rattle.chart_service.specs.Texts.{MakesOpened, MakesEdited, IsVersionWith, HasTaken}
use Rattle.chart_service.specs.Replying.{IsAnswerLine, reply_bytes}
use Rattle.chart_service.specs.Answering.{Answers}

-- what is known of a value that may be there goes on
pub if_ok : {T E : Type 0} → (P Q : T → Type 0) → ((x : T) → P x → Q x) → (r : Result T E) → IfOk r P → IfOk r Q
if_ok P Q f (Ok x) h = f x h
if_ok P Q f (Err e) h = h

-- what is opened is a text, or is refused as the script says
opens_as : (lexicon : Lexicon) (bytes : List ℕ) (r : Result TextValue EditFault) → OpensBytes bytes r
    → OpensTokens lexicon bytes r → MakesOpened lexicon bytes r
opens_as lexicon bytes (Ok made) h k =
    (record { few = h.0.few; utf8 = h.0.utf8 }, h.1, record { are_tokens = k.0; few = k.1 })
opens_as lexicon bytes (Err store.Memory) h k = tt
opens_as lexicon bytes (Err (store.Range len)) h k = absurd h
opens_as lexicon bytes (Err (store.FullText count)) h k = too_many_bytes h.0 refl
opens_as lexicon bytes (Err (store.NotUtf8 at)) (few, is, less) k =
    subst (λ (place : ℕ). TellsRefusal (IsTextRefused lexicon bytes) (session_fault (store.NotUtf8 place))) (sym is)
    (not_utf8 few (λ utf8. omega (arith, is, less, utf8_valid_len-IsUtf8 bytes utf8)) refl)
opens_as lexicon bytes (Err store.FullTokens) h k =
    too_many_tokens (record { few = h.few; utf8 = h.utf8 }) k refl

-- the same of a block that is passed by its bytes
pub kept_opens : (lexicon : Lexicon) (own bytes : List ℕ) → own ≡ bytes → (r : Result TextValue EditFault)
    → OpensBytes own r → OpensTokens lexicon own r → MakesOpened lexicon bytes r
kept_opens lexicon own bytes same r h k =
    subst (λ (b : List ℕ). MakesOpened lexicon b r) same (opens_as lexicon own r h k)

-- a block that is too long is refused
pub long_opens : (lexicon : Lexicon) (bytes : List ℕ) (count : ℕ) → IsBlockOf count None bytes
    → MakesOpened lexicon bytes (Err (store.FullText count))
long_opens lexicon bytes count (same, many) = too_many_bytes (omega (arith, same, many)) refl

module _ (lexicon : Lexicon) (old : List ℕ) (at deleted : ℕ) (inserted : List ℕ) where
  room_as : StoreRoom old at deleted inserted → HasRoom old at deleted inserted
  room_as h = record { within = h.within; few = h.few }

  cuts_as : CutsNone old at deleted inserted → KeepsScalars old at deleted inserted
  cuts_as h = record { before = h.before; behind = h.behind; inserts = h.inserts }

  wrong_as : (place : ℕ) → IsCutAt old at deleted inserted place → IsWrongAt old at deleted inserted place
  wrong_as place (StoreFirst a e) = cuts_first a e
  wrong_as place (StoreLast a b e) = cuts_last a b e
  wrong_as place (StoreInserts a b less e) =
      inserts_wrong a b (λ utf8. omega (arith, less, utf8_valid_len-IsUtf8 inserted utf8)) e

  -- an edit that is refused is so as the script says
  edit_refused_as : (fault : EditFault) → EditsBytes old at deleted inserted (Err fault)
      → EditsTokens lexicon (edited old at deleted inserted) (Err fault)
      → MakesEdited lexicon old at deleted inserted (Err fault)
  edit_refused_as store.Memory h k = tt
  edit_refused_as (store.Range len) (behind, is) k =
      subst (λ (size : ℕ). MakesEdited lexicon old at deleted inserted (Err (store.Range size))) (sym is)
      (out_of_range behind refl)
  edit_refused_as (store.FullText count) h k = grows_too_long h.0 h.1 refl
  edit_refused_as (store.NotUtf8 place) h k = wrong_bytes place (room_as h.0) (wrong_as place h.1) refl
  edit_refused_as store.FullTokens h k = gets_too_many_tokens (room_as h.0) (cuts_as h.1) k refl

  -- one that is made is so too
  edit_made_as : (answer : TextValue × TokenEdit) → EditsBytes old at deleted inserted (Ok answer)
      → EditsTokens lexicon (edited old at deleted inserted) (Ok answer)
      → MakesEdited lexicon old at deleted inserted (Ok answer.0)
  edit_made_as answer h k =
      ((room_as h.0, cuts_as h.1), h.2, record { are_tokens = k.0; few = k.1 })

  -- one by a block that is too long is refused for the numbers alone
  pub long_edits : (n : ℕ) (fault : EditFault) → MAX_BLOCK < n → IsSizeFault (length old) at deleted n (Some fault)
      → MAX_BLOCK < length inserted → MakesEdited lexicon old at deleted inserted (Err fault)
  long_edits n store.Memory many h long = tt
  long_edits n (store.Range len) many (behind, is) long =
      subst (λ (size : ℕ). MakesEdited lexicon old at deleted inserted (Err (store.Range size))) (sym is)
      (out_of_range behind refl)
  long_edits n (store.FullText count) many h long =
      grows_too_long h.0 (omega (arith, long, edited_size old at deleted inserted h.0)) refl
  long_edits n (store.NotUtf8 place) many h long = absurd h
  long_edits n store.FullTokens many h long = absurd h

-- the same of a block that is passed by its bytes
module _ (lexicon : Lexicon) (old : List ℕ) (at deleted : ℕ) (own inserted : List ℕ) (same : own ≡ inserted) where
  pub kept_refused : (fault : EditFault) → EditsBytes old at deleted own (Err fault)
      → EditsTokens lexicon (edited old at deleted own) (Err fault)
      → MakesEdited lexicon old at deleted inserted (Err fault)
  kept_refused fault h k =
      subst (λ (o : List ℕ). MakesEdited lexicon old at deleted o (Err fault)) same
      (edit_refused_as lexicon old at deleted own fault h k)

  pub kept_edits : (answer : TextValue × TokenEdit) → EditsBytes old at deleted own (Ok answer)
      → EditsTokens lexicon (edited old at deleted own) (Ok answer)
      → MakesEdited lexicon old at deleted inserted (Ok answer.0)
  kept_edits answer h k =
      subst (λ (o : List ℕ). MakesEdited lexicon old at deleted o (Ok answer.0)) same
      (edit_made_as lexicon old at deleted own answer h k)

-- what is made has its tokens
pub tokens_made : (lexicon : Lexicon) (bytes : List ℕ) (MayBe : Type 0) (IsRefused : List ℕ → Type 0)
    (made : Result TextValue EditFault) → MakesText lexicon bytes MayBe IsRefused made
    → IfOk made (λ (t : TextValue). HasTokens lexicon t.bytes t.tokens)
tokens_made lexicon bytes MayBe IsRefused (Ok t) h =
    subst (λ (b : List ℕ). HasTokens lexicon b t.tokens) (sym h.1) h.2
tokens_made lexicon bytes MayBe IsRefused (Err fault) h = tt

-- the next version keeps the chart of its text
pub version_kept : {C : Type 0} → (g : Grammar) (number : ℕ) (t : TextValue) (version : Version C)
    → HasDistinctNames g → HasTokens g.lexicon t.bytes t.tokens → IsVersionWith g number t version
    → KeepsVersion g (Some version)
version_kept g number t version names tokens is =
    let P : TextValue → Type 0 = λ (x : TextValue). IsOpened g version.chart x.bytes x.tokens in
    subst P (sym is.same_text)
    (record { names = names; are_tokens = tokens.are_tokens; is_chart = is.is_chart })

-- and it is seen by its number and text
pub version_is : {C : Type 0} → (g : Grammar) (number : ℕ) (t : TextValue) (version : Version C)
    → IsVersionWith g number t version → version_seen (Some version) ≡ Some (number, t)
version_is g number t version is = let n = is.same_number in let s = is.same_text in cc

-- how many texts a state has in which the session may be
count_is : (state : State) (current : Option (ℕ × TextValue)) → IsLastOf state current
    → count_up_to current ≡ length state.texts
count_is state None none = sym (ap length none)
count_is state (Some version) (older, all, number) =
    omega (arith, ap length all, number, length-append older ((version.1).bytes ∷ []))

-- so many texts
some_texts : (n : ℕ) → (texts : List (List ℕ)) × (length texts ≡ n)
some_texts zero = ([], refl)
some_texts (suc n) = let fewer = some_texts n in ([] ∷ fewer.0, ap suc fewer.1)

-- each session may be in some state
some_state : (current : Option (ℕ × TextValue)) → (state : State) × IsLastOf state current
some_state None = (no_texts, refl)
some_state (Some version) =
    let older = some_texts version.0 in
    (record { texts = older.0 ++ (version.1).bytes ∷ [] }, (older.0, refl, sym older.1))

-- a state that stays, or has one text more
same_count : (before after : State) → after ≡ before → length after.texts ≤ length before.texts + 1
same_count before after same = omega (arith, ap (λ (s : State). length s.texts) same)

one_more : (before after : State) (text : List ℕ) → after ≡ with_text before text
    → length after.texts ≤ length before.texts + 1
one_more before after text same =
    omega (arith, ap (λ (s : State). length s.texts) same, length-append before.texts (text ∷ []))

-- a command adds at most one text
texts_grow : (g : Grammar) (before : State) (command : Command) (line : List ℕ) (after : State)
    → IsReply g before command line after → length after.texts ≤ length before.texts + 1
texts_grow g before (opens text) line after (open_already a e same) = same_count before after same
texts_grow g before (opens text) line after (not_opened a b same) = same_count before after same
texts_grow g before (opens text) line after (opened tokens a b c e same) = one_more before after text same
texts_grow g before (edits at deleted inserted) line after (none_to_edit a e same) = same_count before after same
texts_grow g before (edits at deleted inserted) line after (not_edited text a b same) = same_count before after same
texts_grow g before (edits at deleted inserted) line after (is_edited text tokens a b c d e same) =
    one_more before after (edited text at deleted inserted) same
texts_grow g before (ask query) line after (a, same) = same_count before after same

-- a command adds at most one version
pub counts_on : (old : SessionValue) (command : Command) (new : SessionValue) (line : List ℕ)
    → HasReply old command new line → version_count new ≤ version_count old + 1
counts_on old command new line h =
    let state = some_state old.current in
    let r = h.replies state.0 state.1 in
    let grows = texts_grow old.language state.0 command line r.after r.replies in
    omega (arith, grows, count_is state.0 old.current state.1, count_is r.after new.current r.is_in)

-- a command that changes nothing is replied to
module _ (old new : SessionValue) (command : Command) (same : new ≡ old) where
  pub stays : (line : List ℕ)
      → ((state : State) → IsIn old state → IsReply old.language state command line state)
      → HasReply old command new line
  stays line replies =
      let P : SessionValue → Type 0 = λ (s : SessionValue). HasReply old command s line in
      subst P (sym same) (record {
        language = refl;
        replies = λ state i. record { after = state; replies = replies state i; is_in = i };
      })

  -- and one that is refused
  refuses : (IsRefused : List ℕ → Type 0)
      → ((state : State) → IsIn old state → (line : List ℕ) → IsRefused line
      → IsReply old.language state command line state)
      → (fault : SessionFault) → TellsRefusal IsRefused fault → AnswersCommand old command (Err fault) new
  refuses IsRefused replies Memory h = tt
  refuses IsRefused replies (Refused refusal) h =
      stays (refused_line refusal) (λ state i. replies state i (refused_line refusal) h)

-- a text is the next version, by a command that leaves it so
module _ (old new : SessionValue) (t : TextValue) (bytes : List ℕ) (is : t.bytes ≡ bytes) (opening : Opened)
    (next : IsNextOf old t opening new) where
  next_in : (state : State) → IsIn old state → IsIn new (with_text state bytes)
  next_in state i =
      let P : Option (ℕ × TextValue) → Type 0 = IsLastOf (with_text state bytes) in
      subst P (sym next.current) (
        state.texts,
        ap (λ (b : List ℕ). state.texts ++ b ∷ []) (sym is),
        next.number ∙ count_is state old.current i,
      )

  puts : (command : Command) (line : List ℕ)
      → ((state : State) → IsIn old state → IsReply old.language state command line (with_text state bytes))
      → HasReply old command new line
  puts command line replies = record {
    language = next.language;
    replies = λ state i. record {
      after = with_text state bytes;
      replies = replies state i;
      is_in = next_in state i;
    };
  }

-- no text is open, or this one is
pub closed_in : (old : SessionValue) → old.current ≡ None → (state : State) → IsIn old state → IsClosed state
closed_in old none state i = subst (IsLastOf state) none i

pub current_in : (old : SessionValue) (number : ℕ) (t : TextValue) → old.current ≡ Some (number, t)
    → (state : State) → IsIn old state → IsCurrent state t.bytes
current_in old number t is state i =
    let last : IsLastOf state (Some (number, t)) = subst (IsLastOf state) is i in
    (last.0, last.1)

-- a text is refused since one is open
pub answers_open_already : (old new : SessionValue) (bytes : List ℕ) (number : ℕ) (t : TextValue)
    → old.current ≡ Some (number, t) → new ≡ old → AnswersCommand old (opens bytes) (Err (Refused Open)) new
answers_open_already old new bytes number t is same =
    stays old new (opens bytes) same (refused_line Open)
    (λ state i. open_already (t.bytes, current_in old number t is state i) refl refl)

-- an edit since none is
pub answers_closed : (old new : SessionValue) (at deleted : ℕ) (inserted : List ℕ) → old.current ≡ None
    → new ≡ old → AnswersCommand old (edits at deleted inserted) (Err (Refused Closed)) new
answers_closed old new at deleted inserted none same =
    stays old new (edits at deleted inserted) same (refused_line Closed)
    (λ state i. none_to_edit (closed_in old none state i) refl refl)

-- what holds of an answer holds of one that is equal
answered_so : (old new : SessionValue) (command : Command) (answer other : Result Opened SessionFault)
    → answer ≡ other → AnswersCommand old command other new → AnswersCommand old command answer new
answered_so old new command answer other is h =
    subst (λ (r : Result Opened SessionFault). AnswersCommand old command r new) (sym is) h

-- a text is opened, or refused
pub answers_open : (old new : SessionValue) (bytes : List ℕ) → old.current ≡ None
    → (made : Result TextValue EditFault) → MakesOpened (old.language).lexicon bytes made
    → (answer : Result Opened SessionFault) → HasTaken old made answer new
    → AnswersCommand old (opens bytes) answer new
answers_open old new bytes none (Ok t) h (Ok opening) next =
    let first : opening.number ≡ 0 = next.number ∙ ap count_up_to none in (
      puts old new t bytes h.1 opening next (opens bytes) (version_reply opening.number opening.tokens)
          (λ state i. opened t.tokens (closed_in old none state i) h.0 h.2
          (ap (λ n. version_reply n opening.tokens) first ∙ ap (λ n. version_reply 0 n) next.tokens) refl),
      (t, next),
    )
answers_open old new bytes none (Ok t) h (Err fault) e =
    subst (λ (f : SessionFault). AnswersCommand old (opens bytes) (Err f) new) (sym e) tt
answers_open old new bytes none (Err fault) h answer taken =
    answered_so old new (opens bytes) answer (Err (session_fault fault)) taken.0
    (refuses old new (opens bytes) taken.1 (IsTextRefused (old.language).lexicon bytes)
    (λ state i line refused. not_opened (closed_in old none state i) refused refl) (session_fault fault) h)

-- one is edited, or the edit refused
pub answers_edit : (old new : SessionValue) (number : ℕ) (t : TextValue) → old.current ≡ Some (number, t)
    → (at deleted : ℕ) (inserted : List ℕ) (made : Result TextValue EditFault)
    → MakesEdited (old.language).lexicon t.bytes at deleted inserted made
    → (answer : Result Opened SessionFault) → HasTaken old made answer new
    → AnswersCommand old (edits at deleted inserted) answer new
answers_edit old new number t is at deleted inserted (Ok later) h (Ok opening) next = (
  puts old new later (edited t.bytes at deleted inserted) h.1 opening next (edits at deleted inserted)
      (version_reply opening.number opening.tokens)
      (λ state i. is_edited t.bytes later.tokens (current_in old number t is state i) h.0.0 h.0.1 h.2
      (ap (λ n. version_reply n opening.tokens) (next.number ∙ count_is state old.current i)
      ∙ ap (λ n. version_reply (length state.texts) n) next.tokens) refl),
  (later, next),
)
answers_edit old new number t is at deleted inserted (Ok later) h (Err fault) e =
    subst (λ (f : SessionFault). AnswersCommand old (edits at deleted inserted) (Err f) new) (sym e) tt
answers_edit old new number t is at deleted inserted (Err fault) h answer taken =
    answered_so old new (edits at deleted inserted) answer (Err (session_fault fault)) taken.0
    (refuses old new (edits at deleted inserted) taken.1 (IsEditRefused t.bytes at deleted inserted (old.language).lexicon)
    (λ state i line refused. not_edited t.bytes (current_in old number t is state i) refused refl)
    (session_fault fault) h)

-- a question is refused since no text is open
pub closed_question : (session : SessionValue) (query : Query) → session.current ≡ None → (line : List ℕ)
    → line ≡ refused_line Closed → HasReply session (ask query) session line
closed_question session query none line e =
    stays session session (ask query) refl line (λ state i. (none_to_ask (closed_in session none state i) e, refl))

-- or answered on the one that is
pub open_question : (session : SessionValue) (query : Query) (number : ℕ) (t : TextValue)
    → session.current ≡ Some (number, t) → (chart : ChartValue) → IsOpened session.language chart t.bytes t.tokens
    → (reply : Result Reply AllocError) → IfOk reply (Answers session.language t query)
    → IfOk reply (λ r. HasReply session (ask query) session (reply_bytes session.language t r))
open_question session query number t is chart o reply h =
    if_ok (Answers session.language t query)
    (λ r. HasReply session (ask query) session (reply_bytes session.language t r))
    (λ r a. stays session session (ask query) refl (reply_bytes session.language t r)
    (λ state i. (answered t.bytes t.tokens (current_in session number t is state i) o.are_tokens a.0, refl)))
    reply h

-- what is kept is seen
none_seen : {C : Type 0} → (current : Option (Version C)) → is_some current ≡ false → version_seen current ≡ None
none_seen None closed = refl
none_seen (Some version) closed = let never : true ≡ false = closed in cc

some_seen : {C : Type 0} → (current : Option (Version C)) → is_some current ≡ true
    → (version : Version C) × (current ≡ Some version)
some_seen None some = let never : false ≡ true = some in cc
some_seen (Some version) some = (version, refl)

-- of a session that keeps this version, or none
module _ {C : Type 0} (g : Grammar) (current : Option (Version C)) (old : SessionValue)
    (seen : session_of g current ≡ old) where
  same_language : g ≡ old.language
  same_language = ap (λ (s : SessionValue). s.language) seen

  -- no version is kept, so no text is open
  pub closed_seen : is_some current ≡ false → old.current ≡ None
  closed_seen closed = sym (ap (λ (s : SessionValue). s.current) seen) ∙ none_seen current closed

  -- this version is kept, so its text is open
  pub version_now : (version : Version C) → current ≡ Some version
      → old.current ≡ Some (version.number, version.text)
  version_now version is =
      sym (ap (λ (s : SessionValue). s.current) seen) ∙ ap (λ (c : Option (Version C)). version_seen c) is

  -- a text is refused since one is open
  pub open_refuses : (new : SessionValue) (bytes : List ℕ) → is_some current ≡ true → new ≡ old
      → AnswersCommand old (opens bytes) (Err (Refused Open)) new
  open_refuses new bytes some same =
      let there = some_seen current some in
      answers_open_already old new bytes there.0.number there.0.text (version_now there.0 there.1) same

  -- or opened
  pub open_answers : (new : SessionValue) (bytes : List ℕ) → is_some current ≡ false
      → (made : Result TextValue EditFault) → MakesOpened g.lexicon bytes made
      → (answer : Result Opened SessionFault) → HasTaken old made answer new
      → AnswersCommand old (opens bytes) answer new
  open_answers new bytes closed made h answer taken =
      let P : Grammar → Type 0 = λ (x : Grammar). MakesOpened x.lexicon bytes made in
      answers_open old new bytes (closed_seen closed) made (subst P same_language h) answer taken

  -- an edit is refused since none is open
  pub edit_refuses : (new : SessionValue) (at deleted : ℕ) (inserted : List ℕ) → current ≡ None → new ≡ old
      → AnswersCommand old (edits at deleted inserted) (Err (Refused Closed)) new
  edit_refuses new at deleted inserted none same =
      let now : old.current ≡ None =
      sym (ap (λ (s : SessionValue). s.current) seen) ∙ ap (λ (c : Option (Version C)). version_seen c) none in
      answers_closed old new at deleted inserted now same

  -- or made
  pub edit_answers : (new : SessionValue) (version : Version C) → current ≡ Some version
      → (at deleted : ℕ) (inserted : List ℕ) (made : Result TextValue EditFault)
      → MakesEdited g.lexicon version.text.bytes at deleted inserted made
      → (answer : Result Opened SessionFault) → HasTaken old made answer new
      → AnswersCommand old (edits at deleted inserted) answer new
  edit_answers new version is at deleted inserted made h answer taken =
      let P : Grammar → Type 0 = λ (x : Grammar). MakesEdited x.lexicon version.text.bytes at deleted inserted made in
      answers_edit old new version.number version.text (version_now version is) at deleted inserted made
      (subst P same_language h) answer taken

  -- a question is answered
  pub question_answers : (query : Query) (version : Version C) → current ≡ Some version → KeepsVersion g current
      → (reply : Result Reply AllocError) → IfOk reply (Answers g version.text query)
      → IfOk reply (λ r. HasReply old (ask query) old (reply_bytes g version.text r))
  question_answers query version is keeps reply h =
      let o : IsOpened g version.chart version.text.bytes version.text.tokens = subst (KeepsVersion g) is keeps in
      let P : SessionValue → Type 0 = λ (s : SessionValue).
      IfOk reply (λ r. HasReply s (ask query) s (reply_bytes g version.text r)) in
      subst P seen (open_question (session_of g current) query version.number version.text
      (ap (λ (c : Option (Version C)). version_seen c) is) version.chart o reply h)

  -- or refused since no text is open
  pub closed_replies : (query : Query) → current ≡ None → (line : Result (String Global) AllocError)
      → IfOk line (λ text. string_bytes text ≡ refused_line Closed)
      → IfOk line (λ text. HasReply old (ask query) old (string_bytes text))
  closed_replies query none line h =
      let now : old.current ≡ None =
      sym (ap (λ (s : SessionValue). s.current) seen) ∙ ap (λ (c : Option (Version C)). version_seen c) none in
      if_ok (λ (text : String Global). string_bytes text ≡ refused_line Closed)
      (λ (text : String Global). HasReply old (ask query) old (string_bytes text))
      (λ text e. closed_question old query now (string_bytes text) e) line h

  -- a text that is made has its tokens by the same lexicon
  pub tokens_here : (t : TextValue) → HasTokens (old.language).lexicon t.bytes t.tokens
      → HasTokens g.lexicon t.bytes t.tokens
  tokens_here t h = subst (λ (x : Grammar). HasTokens x.lexicon t.bytes t.tokens) (sym same_language) h

  -- and is the next version, once that is kept
  pub next_is : (number size : ℕ) (t : TextValue) (version : Version C) → IsVersionWith g number t version
      → number ≡ version_count old → size ≡ length t.tokens
      → IsNextOf old t (record { number = number; tokens = size }) (session_of g (Some version))
  next_is number size t version is counts sizes = record {
    language = same_language;
    current = version_is g number t version is;
    number = counts;
    tokens = sizes;
  }

-- the line that tells an answer replies to the command
line_replies : (old new : SessionValue) (command : Command) (answer : Result Opened SessionFault)
    → AnswersCommand old command answer new → (line : List ℕ) → IsAnswerLine answer line
    → HasReply old command new line
line_replies old new command (Ok opening) h line is = subst (HasReply old command new) (sym is) h.0
line_replies old new command (Err Memory) h line never = absurd never
line_replies old new command (Err (Refused refusal)) h line is = subst (HasReply old command new) (sym is) h

-- the same of a command that is this one
pub answer_replies : (old new : SessionValue) (command meaning : Command) → meaning ≡ command
    → (answer : Result Opened SessionFault) → AnswersCommand old command answer new → (line : List ℕ)
    → IsAnswerLine answer line → HasReply old meaning new line
answer_replies old new command meaning same answer h line is =
    subst (λ (m : Command). HasReply old m new line) (sym same) (line_replies old new command answer h line is)

-- an edit by equal numbers is the same command
pub edits_same : (inserted : List ℕ) (at place deleted gone : ℕ) → place ≡ at → gone ≡ deleted
    → edits at deleted inserted ≡ edits place gone inserted
edits_same inserted at place deleted gone e f = cc
