-- An input has one session: the replies to its commands in order, and behind them its last line.
use Rattle.std.proofs.Common.{inl, inr, ◌≡◌, ℕ, ◌+◌, List, [], ◌∷◌, ◌++◌, length, refl, sym, ◌∙◌, ap, subst, arith, drop, append_assoc, append-nil, length-append}
use Rattle.std.proofs.lemmas.List.{nil_from_length}
use Rattle.spec_grammar.specs.Grammars.{Grammar}
use Rattle.spec_script.specs.Script.{Command, Part, Script, nothing, header_alone, with_grammar, parts_of, BeginsWithScript, Ending, IsScript}
use Rattle.spec_session.specs.GrammarReplies.{IsRefused, grammar_reply}
use Rattle.spec_session.specs.Steps.{State, no_texts}
use Rattle.spec_session.specs.Runs.{AreReplies}
use Rattle.spec_session.specs.Sessions.{Mode, serve_mode, AreAllReplies, last_line, last_status, IsSession, refused, whole}
use Rattle.spec_session.specs.Laws.{OneSession, RepliesComeFirst, RepliesThenLastLine, RefusalIsAll}
use Rattle.spec_script.proofs.BeginningLemmas.{two_beginnings, commands_behind, second_block, HasFronts, any_fronts, script_goes_on, same_script}
use Rattle.spec_session.proofs.RunLemmas.{AreTold, told_of}
use Rattle.spec_session.proofs.RepliesLemmas.{one_grammar, accepted_or_refused, one_refusal, one_reply}

-- the bytes begin with these
abbrev pub StartsWith : List ℕ → List ℕ → Type 0
StartsWith out told = (more : List ℕ) × (out ≡ told ++ more)

-- bytes that begin with a line and with what follows it begin with both
starts_after : (line out rest told behind : List ℕ) → told ≡ line ++ behind → out ≡ line ++ rest →
    StartsWith rest behind → StartsWith out told
starts_after line out rest told behind e f h =
    let front : (line ++ behind) ++ h.0 ≡ told ++ h.0 = ap (λ bytes. bytes ++ h.0) (sym e) in
    (h.0, f ∙ ap (λ bytes. line ++ bytes) h.1 ∙ sym (append_assoc line behind h.0) ∙ front)

-- bytes that begin with each other are the same
same_starts : (a b : List ℕ) → StartsWith a b → StartsWith b a → a ≡ b
same_starts a b h k =
    let more : length a ≡ length b + length h.0 = ap length h.1 ∙ length-append b h.0 in
    let less : length b ≡ length a + length k.0 = ap length k.1 ∙ length-append a k.0 in
    h.1 ∙ ap (λ bytes. b ++ bytes) (nil_from_length h.0 (omega arith)) ∙ append-nil b

-- the replies to the first commands are the first of the replies
told_start : (g : Grammar) (from : State) (commands behind : List Command) (told out : List ℕ) →
    AreTold g from commands told → AreTold g from (commands ++ behind) out → StartsWith out told
told_start g from [] behind told out h k = (out, rw h refl)
told_start g from (command ∷ commands) behind told out h k =
    let replies = one_reply g from command k.0 h.0 k.2 h.2 k.3 h.3 in
    let one : k.0 ≡ h.0 = replies.0 in
    let one_state : k.2 ≡ h.2 = replies.1 in
    let again : out ≡ h.0 ++ k.1 = k.4 ∙ ap (λ line. line ++ k.1) one in
    let IsFrom : State → Type 0 = λ (s : State). AreTold g s (commands ++ behind) k.1 in
    let tail = told_start g h.2 commands behind h.1 k.1 h.5 (subst IsFrom one_state k.5) in
    starts_after h.0 out k.1 told h.1 h.4 again tail

replies_start : (g : Grammar) (from : State) (commands behind : List Command) (told out : List ℕ) →
    AreReplies g from commands told → AreReplies g from (commands ++ behind) out → StartsWith out told
replies_start g from commands behind told out h k =
    told_start g from commands behind told out (told_of g from commands told h)
    (told_of g from (commands ++ behind) out k)

-- the mode is definite: its form lets no command stand behind a grammar, and the fronts of what may
-- stand there; and one text at most follows the reply to a grammar
pub record IsDefinite (mode : Mode) : Type 0 where
  pub bare : mode.form.MayStand []
  pub fronts : HasFronts mode.form
  pub one_text : (g : Grammar) (lines others : List ℕ) → mode.Follow g lines → mode.Follow g others → lines ≡ others

-- in a mode that is definite
module _ (mode : Mode) (definite : IsDefinite mode) where
  -- so are the replies to the first part of a script behind its grammar
  grammar_start : (block : List ℕ) (commands : List Command) (other : List ℕ) (longer : List Command)
      (behind : List Part) (told out : List ℕ) →
      parts_of (with_grammar other longer) ≡ parts_of (with_grammar block commands) ++ behind →
      AreAllReplies mode (with_grammar block commands) told → AreAllReplies mode (with_grammar other longer) out →
      StartsWith out told
  grammar_start block commands other longer behind told out e h k =
      let f = commands_behind commands longer behind (ap (drop 2) e) in
      let blocks : other ≡ block = ap second_block e in
      let one : k.0 ≡ h.0 = one_grammar block k.0 h.0 (rw (sym blocks) k.3) h.3 in
      let again : out ≡ grammar_reply h.0 ++ (k.1 ++ k.2) =
      k.6 ∙ ap (λ g. grammar_reply g ++ (k.1 ++ k.2)) one in
      let Follows : Grammar → Type 0 = λ (g : Grammar). mode.Follow g k.1 in
      let lines : k.1 ≡ h.1 = definite.one_text h.0 k.1 h.1 (subst Follows one k.4) h.4 in
      let replies : AreReplies h.0 no_texts (commands ++ f.0) k.2 = rw (sym one, sym f.1) k.5 in
      let tail = replies_start h.0 no_texts commands f.0 h.2 k.2 h.5 replies in
      let middle = starts_after h.1 (k.1 ++ k.2) k.2 (h.1 ++ h.2) h.2 refl (ap (λ these. these ++ k.2) lines) tail in
      starts_after (grammar_reply h.0) out (k.1 ++ k.2) told (h.1 ++ h.2) h.6 again middle

  -- and those to a script of which another is a beginning
  all_replies_start : (script longer : Script) (behind : List Part) (told out : List ℕ) →
      parts_of longer ≡ parts_of script ++ behind → AreAllReplies mode script told → AreAllReplies mode longer out →
      StartsWith out told
  all_replies_start nothing longer behind told out e h k = (out, rw h refl)
  all_replies_start header_alone longer behind told out e h k = (out, rw h refl)
  all_replies_start (with_grammar block commands) nothing behind told out e h k = absurd (omega (arith, ap length e))
  all_replies_start (with_grammar block commands) header_alone behind told out e h k =
      absurd (omega (arith, ap length e))
  all_replies_start (with_grammar block commands) (with_grammar other longer) behind told out e h k =
      grammar_start block commands other longer behind told out e h k

  -- a script has one text of replies
  same_replies : (script : Script) (told out : List ℕ) →
      AreAllReplies mode script told → AreAllReplies mode script out → told ≡ out
  same_replies script told out h k =
      let whole : parts_of script ≡ parts_of script ++ [] = sym (append-nil (parts_of script)) in
      same_starts told out
      (all_replies_start script script [] out told whole k h)
      (all_replies_start script script [] told out whole h k)

  -- where a grammar is refused
  module _ (block line : List ℕ) (refusal : IsRefused block line) where
    -- a script that begins with it has no replies
    no_replies : (script : Script) (behind : List Part) (told : List ℕ) →
        parts_of script ≡ parts_of (with_grammar block []) ++ behind → AreAllReplies mode script told → ⊥
    no_replies nothing behind told e h = omega (arith, ap length e)
    no_replies header_alone behind told e h = omega (arith, ap length e)
    no_replies (with_grammar other commands) behind told e h =
        let same : other ≡ block = ap second_block e in
        accepted_or_refused block line h.0 (rw (sym same) h.3) refusal

    -- before it nothing is told
    nothing_told : (script : Script) (behind : List Part) (told : List ℕ) →
        parts_of (with_grammar block []) ≡ parts_of script ++ behind → AreAllReplies mode script told → told ≡ []
    nothing_told nothing behind told e h = h
    nothing_told header_alone behind told e h = h
    nothing_told (with_grammar other commands) behind told e h =
        let same : block ≡ other = ap second_block e in
        absurd (accepted_or_refused block line h.0 (rw same h.3) refusal)

  -- where an input is a script with these replies
  module _ (input : List ℕ) (script : Script) (ending : Ending) (told : List ℕ)
      (s : IsScript mode.form input script ending) (replies : AreAllReplies mode script told) where
    -- its session tells the replies and the last line, and has the status of the script's end
    pub script_session : (out : List ℕ) (status : ℕ) → IsSession mode input out status →
        (out ≡ told ++ last_line ending) × (status ≡ last_status ending)
    script_session out status (refused block rest at begins refusal e) =
        let f = script_goes_on mode.form definite.fronts input script ending s (with_grammar block []) at rest begins definite.bare in
        absurd (no_replies block out refusal script f.0 told f.1 replies)
    script_session out status (whole other final bytes t k e d) =
        let same = same_script mode.form definite.fronts input other final t script ending s in
        let again : AreAllReplies mode script bytes = subst (λ all. AreAllReplies mode all bytes) same.0 k in
        let one : bytes ≡ told = same_replies script bytes told again replies in
        let last : bytes ++ last_line final ≡ told ++ last_line ending =
        ap (λ front. front ++ last_line final) one ∙ ap (λ end. told ++ last_line end) same.1 in
        (e ∙ last, d ∙ ap last_status same.1)

  -- where an input begins with a header and a grammar that is refused
  module _ (input block line : List ℕ) (at : ℕ) (rest : List ℕ)
      (begins : BeginsWithScript input (with_grammar block []) at rest) (refusal : IsRefused block line) where
    -- the grammar behind the header is this one
    same_block : (other : List ℕ) (place : ℕ) (more : List ℕ) →
        BeginsWithScript input (with_grammar other []) place more → block ≡ other
    same_block other place more k =
        let front : List Part = parts_of (with_grammar block []) in
        elim (two_beginnings front (parts_of (with_grammar other [])) 0 at place input rest more begins k) [
          | inl f ↦ sym (ap second_block f.1)
          | inr f ↦ ap second_block f.1
        ]

    -- the session tells the refusal alone, and has status 2
    pub refused_session : (out : List ℕ) (status : ℕ) → IsSession mode input out status → (out ≡ line) × (status ≡ 2)
    refused_session out status (refused other more place k refusal' e) =
        (one_refusal block out line (rw (same_block other place more k) refusal') refusal, e)
    refused_session out status (whole script ending replies s k e d) =
        let f = script_goes_on mode.form definite.fronts input script ending s (with_grammar block []) at rest begins definite.bare in
        absurd (no_replies block line refusal script f.0 replies f.1 k)

  -- where the grammar is refused, the refusal is all that is told
  pub refusal_is_all_of : RefusalIsAll mode
  refusal_is_all_of input block line at rest begins refusal out status session =
      refused_session input block line at rest begins refusal out status session

  -- behind the replies to a script its last line is told, and nothing more
  pub replies_then_last_line_of : RepliesThenLastLine mode
  replies_then_last_line_of input script ending told s replies out status session =
      script_session input script ending told s replies out status session

  -- the replies to the first parts are told first
  pub replies_come_first_of : RepliesComeFirst mode
  replies_come_first_of input front at rest told h in_order replies out status (refused block more place k refusal e) =
      let refused_parts : List Part = parts_of (with_grammar block []) in
      elim (two_beginnings (parts_of front) refused_parts 0 at place input rest more h k) [
        | inl f ↦ (out, rw (nothing_told block out refusal front f.0 told f.1 replies) refl)
        | inr f ↦ absurd (no_replies block out refusal front f.0 told f.1 replies)
      ]
  replies_come_first_of input front at rest told h in_order replies out status (whole script ending all s k e d) =
      let f = script_goes_on mode.form definite.fronts input script ending s front at rest h in_order in
      let start = all_replies_start front script f.0 told all f.1 replies k in
      let last : all ++ last_line ending ≡ told ++ (start.0 ++ last_line ending) =
      ap (λ bytes. bytes ++ last_line ending) start.1 ∙ append_assoc told start.0 (last_line ending) in
      (start.0 ++ last_line ending, e ∙ last)

  -- an input has one session
  pub one_session_of : OneSession mode
  one_session_of input out other status final (refused block rest at h refusal e) session =
      let same = refused_session input block out at rest h refusal other final session in
      (sym same.0, e ∙ sym same.1)
  one_session_of input out other status final (whole script ending replies s h e d) session =
      let same = script_session input script ending replies s h other final session in
      (e ∙ sym same.0, d ∙ sym same.1)

-- the mode `serve` is definite
serve_definite : IsDefinite serve_mode
serve_definite = record { bare = tt; fronts = any_fronts; one_text = λ g lines others h k. h ∙ sym k }

pub refusal_is_all : RefusalIsAll serve_mode
refusal_is_all = refusal_is_all_of serve_mode serve_definite

pub replies_then_last_line : RepliesThenLastLine serve_mode
replies_then_last_line = replies_then_last_line_of serve_mode serve_definite

pub replies_come_first : RepliesComeFirst serve_mode
replies_come_first = replies_come_first_of serve_mode serve_definite

pub one_session : OneSession serve_mode
one_session = one_session_of serve_mode serve_definite
