-- Each input is a script, and the commands of a script have replies. So no input is without a session.
use Rattle.std.proofs.Common.{◌≡◌, ℕ, zero, suc, ◌+◌, ◌<◌, ◌⊎◌, inl, inr, List, [], ◌∷◌, ◌++◌, length, slice_range, refl, sym, ap, subst, arith, length-append}
use Rattle.std.proofs.lemmas.Bool.{cases_lt}
use Rattle.spec_lexing.specs.declared.token.Token.{Token}
use Rattle.spec_lexing.proofs.KindsLemmas.{some_tokens}
use Rattle.spec_grammar.specs.Grammars.{Grammar, HasDistinctNames}
use Rattle.spec_grammar.specs.Trees.{Tree}
use Rattle.spec_grammar.specs.Cycles.{IsAcyclic}
use Rattle.spec_text.specs.declared.limits.TheConstants.{MAX_NODES}
use Rattle.spec_trees.specs.FirstTrees.{node_count}
use Rattle.spec_trees.specs.TreeText.{tree_text}
use Rattle.spec_lbnf.proofs.SymbolNameLemmas.{one_symbol_each}
use Rattle.spec_lexing.specs.declared.kind_def.KindDef.{KindDef}
use Rattle.spec_script.specs.declared.question.TokenSpan.{TokenSpan}
use Rattle.spec_script.specs.Script.{Constituent, Query, has, tree, tokens_in, Command, opens, edits, ask, Part, header, grammar}
use Rattle.spec_script.specs.Script.{of_command, Script, nothing, header_alone, with_grammar, parts_of}
use Rattle.spec_script.specs.Script.{as_parts, line_of, block_of, text_of}
use Rattle.spec_script.specs.Script.{IsInOrder, MayFollow, any_order, BeginsWithParts, BeginsWithScript, GoesOn}
use Rattle.spec_script.specs.Script.{HasEndLine, Ending, ended, broken, IsScript}
use Rattle.spec_script.proofs.BeginningLemmas.{begins_more, parts_more}
use Rattle.spec_session.specs.Lines.{as_line}
use Rattle.spec_session.specs.GrammarReplies.{IsAccepted, grammar_reply}
use Rattle.spec_session.specs.Steps.{version_reply, State, no_texts, with_text, IsClosed, IsOpen, IsReply}
use Rattle.spec_session.specs.Steps.{open_already, not_opened, opened, none_to_edit, not_edited, is_edited}
use Rattle.spec_session.specs.Steps.{none_to_ask, answered}
use Rattle.spec_session.specs.TextRefusals.{closed_line, open_line, edited}
use Rattle.spec_session.proofs.TextLemmas.{IsOpenedOrRefused, opened_or_refused, IsEditedOrRefused, edited_or_refused}
use Rattle.spec_session.specs.Questions.{HasSymbol, first_of, end_of, IsSpan, IsNoSpan, IsWithin}
use Rattle.spec_session.specs.Questions.{IsDerived, unknown_category_line, outside_line, of_no_symbol, of_no_span}
use Rattle.spec_session.specs.TokenAnswers.{tokens_line, span_first, span_end, IsTokensAnswer, refused_tokens, tokens_told}
use Rattle.spec_session.specs.TreeAnswers.{IsFirstTreeOf, none_line, large_tree_line, IsTreeAnswer, refused_tree, no_tree, large_tree, printed_tree}
use Rattle.spec_session.specs.Answers.{yes_line, no_line, IsHasAnswer, refused_has, yes, no, IsAnswer}
use Rattle.spec_session.specs.Sessions.{serve_mode, last_line, last_status, IsSession, refused, whole}
use Rattle.spec_session.specs.Existence.{SomeSession}
use Rattle.spec_session.proofs.DenialLemmas.{IsUndeniable, decided}
use Rattle.spec_session.proofs.BreakingLemmas.{HasBreak, some_break}
use Rattle.spec_session.proofs.TreeLemmas.{derived_has_tree}
use Rattle.spec_session.proofs.RunLemmas.{AreTold, replies_told}
use Rattle.spec_session.proofs.VerdictLemmas.{HasVerdict, some_verdict}

-- the bytes behind a part are fewer
fewer_behind :
    (part : Part) (rest more : List ℕ) →
    rest ≡ text_of part ++ more → length more < length rest
fewer_behind part rest more e =
    omega (
      arith,
      ap length e,
      length-append (text_of part) more,
      length-append (line_of part) (10 ∷ block_of part),
    )

-- a script and a part in its place are a longer script
longer_script : (script : Script) (part : Part) → MayFollow any_order script part →
    (longer : Script) × IsInOrder any_order longer × (parts_of longer ≡ parts_of script ++ part ∷ [])
longer_script nothing header h = (header_alone, tt, refl)
longer_script header_alone (grammar block) h = (with_grammar block [], tt, refl)
longer_script (with_grammar block commands) (of_command command) h =
    let parts : as_parts (commands ++ command ∷ []) ≡ as_parts commands ++ of_command command ∷ [] =
    parts_more commands command in
    (with_grammar block (commands ++ command ∷ []), h, ap (λ (ps : List Part). header ∷ grammar block ∷ ps) parts)
longer_script script part h = absurd h

module _ (input : List ℕ) where
  -- the input is a script
  abbrev HasScript : Type 0
  HasScript = (script : Script) × (ending : Ending) × IsScript any_order input script ending

  -- the input has a session
  abbrev HasSession : Type 0
  HasSession = (out : List ℕ) × (status : ℕ) × IsSession serve_mode input out status

  -- where an input goes on by no part, a script ends or is broken there
  script_here :
      (script : Script) (at : ℕ) (rest : List ℕ) →
      IsInOrder any_order script → BeginsWithScript input script at rest → (GoesOn any_order script at rest → ⊥) →
      IsUndeniable HasScript
  script_here script at rest in_order begins stops denied =
      let Ends : Type 0 = HasEndLine any_order script at rest in
      decided Ends (λ (split : Ends ⊎ (Ends → ⊥)). elim split [
        | inl end ↦ denied (
          script,
          ended,
          record {
            at = at;
            rest = rest;
            in_order = in_order;
            begins = begins;
            ends = end;
          },
        )
        | inr other ↦ some_break script at rest stops other (λ (found : HasBreak script at rest stops other). denied (
          script,
          broken found.0,
          record {
            at = at;
            rest = rest;
            in_order = in_order;
            begins = begins;
            ends = found.1;
          },
        ))
      ])

  -- from each beginning the input goes on to the end of a script: each part takes a byte or more
  script_from :
      (size : ℕ) (script : Script) (at : ℕ) (rest : List ℕ) →
      length rest < size → IsInOrder any_order script → BeginsWithScript input script at rest →
      IsUndeniable HasScript
  script_from zero script at rest lt in_order begins denied = omega arith
  script_from (suc size) script at rest lt in_order begins denied =
      let On : Type 0 = GoesOn any_order script at rest in
      decided On (λ (split : On ⊎ (On → ⊥)). elim split [
        | inl on ↦
            let fewer : length on.more < length rest =
            fewer_behind on.part rest on.more on.spelled in
            let longer = longer_script script on.part on.in_place in
            let place : ℕ = at + length (text_of on.part) in
            let whole : BeginsWithParts 0 input (parts_of script ++ on.part ∷ []) place on.more =
            begins_more (parts_of script) 0 at input rest on.part on.more begins
            on.early on.within_limits on.spelled in
            let Begins : List Part → Type 0 = λ (parts : List Part). BeginsWithParts 0 input parts place on.more in
            script_from size longer.0 place on.more
            (omega arith) longer.1 (subst Begins (sym longer.2) whole) denied
        | inr stops ↦ script_here script at rest in_order begins stops denied
      ])

  -- that an input is a script cannot be denied
  some_script : IsUndeniable HasScript
  some_script = script_from (suc (length input)) nothing 0 input (omega arith) tt (refl, refl)

-- from one place to another is a span of the text, or none
span_or_not : (size first end : ℕ) → IsSpan size first end ⊎ IsNoSpan size first end
span_or_not size first end =
    elim (cases_lt end first) [
      | inl before ↦ inr (inl before)
      | inr order ↦ elim (cases_lt size end) [
        | inl behind ↦ inr (inr behind)
        | inr within ↦ inl (order, within)
      ]
    ]

module _ (g : Grammar) (tokens : List Token) (constituent : Constituent) where
  -- whether the constituent is derived has an answer
  abbrev HasHasAnswer : Type 0
  HasHasAnswer = (line : List ℕ) × IsHasAnswer g tokens constituent line

  -- a question on a span of the text is answered by derivation
  answer_within :
      HasSymbol g constituent → IsWithin (length tokens) constituent → IsUndeniable HasHasAnswer
  answer_within known span denied =
      let Derived : Type 0 = IsDerived g tokens constituent in
      decided Derived (λ (split : Derived ⊎ (Derived → ⊥)). elim split [
        | inl derived ↦ denied (yes_line, yes span derived refl)
        | inr other ↦ denied (no_line, no known span other refl)
      ])

  -- a question on a symbol of the grammar has an answer
  answer_known : HasSymbol g constituent → IsUndeniable HasHasAnswer
  answer_known known denied =
      elim (span_or_not (length tokens) (first_of constituent) (end_of (length tokens) constituent)) [
        | inl within ↦ answer_within known within denied
        | inr outside ↦ denied (outside_line (length tokens), refused_has (of_no_span known outside refl))
      ]

  -- that a question has one cannot be denied
  some_has_answer : IsUndeniable HasHasAnswer
  some_has_answer denied =
      let Known : Type 0 = HasSymbol g constituent in
      decided Known (λ (split : Known ⊎ (Known → ⊥)). elim split [
        | inl known ↦ answer_known known denied
        | inr other ↦ denied (unknown_category_line, refused_has (of_no_symbol other refl))
      ])

-- a grammar whose names are distinct, and of which no category reaches itself
pub record HasTrees (g : Grammar) : Type 0 where
  pub names : HasDistinctNames g
  pub acyclic : IsAcyclic g.rules

-- a grammar that is accepted is one
pub accepted_has_trees : (block : List ℕ) (g : Grammar) → IsAccepted block g → HasTrees g
accepted_has_trees block g h = record {
  names = subst HasDistinctNames (sym h.3) (one_symbol_each h.0 h.2.fit.own_names);
  acyclic = subst (λ (made : Grammar). IsAcyclic made.rules) (sym h.3) h.2.fit.acyclic;
}

module _ (g : Grammar) (fit : HasTrees g) (text : List ℕ) (tokens : List Token) (constituent : Constituent) where
  -- what the first tree of the constituent is has an answer
  abbrev HasTreeAnswer : Type 0
  HasTreeAnswer = (line : List ℕ) × IsTreeAnswer g text tokens constituent line

  -- a first tree is an answer, or is too large for one
  answer_tree : IsWithin (length tokens) constituent →
      (t : Tree) × IsFirstTreeOf g tokens constituent t → HasTreeAnswer
  answer_tree span (t, first) = elim (cases_lt MAX_NODES (node_count t)) [
    | inl many ↦ (large_tree_line, large_tree t span first many refl)
    | inr few ↦ (as_line (tree_text g text tokens t), printed_tree t span first few refl)
  ]

  -- a question on a span of the text is answered by its first tree
  tree_within : HasSymbol g constituent → IsWithin (length tokens) constituent → IsUndeniable HasTreeAnswer
  tree_within known span denied =
      let Derived : Type 0 = IsDerived g tokens constituent in
      decided Derived (λ (split : Derived ⊎ (Derived → ⊥)). elim split [
        | inl derived ↦
            denied (answer_tree span (derived_has_tree g tokens constituent fit.names fit.acyclic derived))
        | inr other ↦ denied (none_line, no_tree known span other refl)
      ])

  -- a question on a symbol of the grammar has an answer
  tree_known : HasSymbol g constituent → IsUndeniable HasTreeAnswer
  tree_known known denied =
      elim (span_or_not (length tokens) (first_of constituent) (end_of (length tokens) constituent)) [
        | inl within ↦ tree_within known within denied
        | inr outside ↦ denied (outside_line (length tokens), refused_tree (of_no_span known outside refl))
      ]

  -- that a question has one cannot be denied
  some_tree_answer : IsUndeniable HasTreeAnswer
  some_tree_answer denied =
      let Known : Type 0 = HasSymbol g constituent in
      decided Known (λ (split : Known ⊎ (Known → ⊥)). elim split [
        | inl known ↦ tree_known known denied
        | inr other ↦ denied (unknown_category_line, refused_tree (of_no_symbol other refl))
      ])

-- a question on the tokens of a span has an answer
some_tokens_answer : (kinds : List KindDef) (text : List ℕ) (tokens : List Token) (span : TokenSpan) →
    (line : List ℕ) × IsTokensAnswer kinds text tokens span line
some_tokens_answer kinds text tokens span =
    let first : ℕ = span_first span in
    let end : ℕ = span_end (length tokens) span in
    elim (span_or_not (length tokens) first end) [
      | inl within ↦ (tokens_line kinds text (slice_range tokens first end), tokens_told within refl)
      | inr outside ↦ (outside_line (length tokens), refused_tokens outside refl)
    ]

-- the query has an answer
abbrev HasAnswer : Grammar → List ℕ → List Token → Query → Type 0
HasAnswer g text tokens query = (line : List ℕ) × IsAnswer g text tokens query line

-- which cannot be denied
some_answer : (g : Grammar) → HasTrees g → (text : List ℕ) (tokens : List Token) (query : Query) →
    IsUndeniable (HasAnswer g text tokens query)
some_answer g fit text tokens (has constituent) = some_has_answer g tokens constituent
some_answer g fit text tokens (tree constituent) = some_tree_answer g fit text tokens constituent
some_answer g fit text tokens (tokens_in span) =
    λ denied. denied (some_tokens_answer g.lexicon.kinds text tokens span)

-- the state of these texts
abbrev state_of : List (List ℕ) → State
state_of texts = record { texts = texts }

-- no text is open, or one is
texts_closed_or_open : (texts : List (List ℕ)) → IsClosed (state_of texts) ⊎ IsOpen (state_of texts)
texts_closed_or_open [] = inl refl
texts_closed_or_open (text ∷ texts) = elim (texts_closed_or_open texts) [
  | inl none ↦ inr (text, ([], ap (λ (others : List (List ℕ)). text ∷ others) none))
  | inr some ↦ inr (some.0, (text ∷ some.1.0, ap (λ (others : List (List ℕ)). text ∷ others) some.1.1))
]

closed_or_open : (state : State) → IsClosed state ⊎ IsOpen state
closed_or_open state = texts_closed_or_open state.texts

module _ (g : Grammar) (state : State) where
  -- the command has a reply
  abbrev HasReply : Command → Type 0
  HasReply command = (line : List ℕ) × (after : State) × IsReply g state command line after

  -- a text has one that cannot be denied
  some_opening : (text : List ℕ) → IsUndeniable (HasReply (opens text))
  some_opening text denied = elim (closed_or_open state) [
    | inr current ↦ denied (open_line, state, open_already current refl refl)
    | inl closed ↦
        opened_or_refused g.lexicon text (λ (split : IsOpenedOrRefused g.lexicon text). elim split [
          | inl fit ↦
              let tokens : List Token = fit.1.0 in
              let line : List ℕ = version_reply 0 (length tokens) in
              denied (line, with_text state text, opened tokens closed fit.0 fit.1.1 refl refl)
          | inr refusal ↦ denied (refusal.0, state, not_opened closed refusal.1 refl)
        ])
  ]

  -- so has an edit
  some_edit : (at deleted : ℕ) (inserted : List ℕ) → IsUndeniable (HasReply (edits at deleted inserted))
  some_edit at deleted inserted denied = elim (closed_or_open state) [
    | inl closed ↦ denied (closed_line, state, none_to_edit closed refl refl)
    | inr (text, current) ↦
        let IsSplit : Type 0 = IsEditedOrRefused text at deleted inserted g.lexicon in
        edited_or_refused text at deleted inserted g.lexicon (λ (split : IsSplit). elim split [
          | inl done ↦
              let tokens : List Token = done.2.0 in
              let line : List ℕ = version_reply (length state.texts) (length tokens) in
              let after : State = with_text state (edited text at deleted inserted) in
              denied (line, after, is_edited text tokens current done.0 done.1 done.2.1 refl refl)
          | inr refusal ↦ denied (refusal.0, state, not_edited text current refusal.1 refl)
        ])
  ]

  -- so has a question
  some_query_answer : HasTrees g → (query : Query) → IsUndeniable (HasReply (ask query))
  some_query_answer fit query denied = elim (closed_or_open state) [
    | inl closed ↦ denied (closed_line, state, (none_to_ask closed refl, refl))
    | inr (text, current) ↦
        let tokens = some_tokens g.lexicon text in
        some_answer g fit text tokens.0 query (λ (answer : HasAnswer g text tokens.0 query).
        denied (answer.0, state, (answered text tokens.0 current tokens.1 answer.1, refl)))
  ]

  -- so has each command
  some_reply : HasTrees g → (command : Command) → IsUndeniable (HasReply command)
  some_reply fit (opens text) = some_opening text
  some_reply fit (edits at deleted inserted) = some_edit at deleted inserted
  some_reply fit (ask query) = some_query_answer fit query

-- and so have commands in turn
pub some_replies : (g : Grammar) → HasTrees g → (state : State) (commands : List Command) →
    IsUndeniable ((out : List ℕ) × AreTold g state commands out)
some_replies g fit state [] denied = denied ([], refl)
some_replies g fit state (command ∷ commands) denied =
    some_reply g state fit command (λ (reply : HasReply g state command).
    some_replies g fit reply.1 commands (λ (others : (out : List ℕ) × AreTold g reply.1 commands out).
    denied (reply.0 ++ others.0, (reply.0, others.0, reply.1, reply.2, refl, others.1))))

module _ (input : List ℕ) where
  -- a script with a grammar has a session
  session_of_grammar :
      (block : List ℕ) (commands : List Command) (ending : Ending) →
      IsScript any_order input (with_grammar block commands) ending → IsUndeniable (HasSession input)
  session_of_grammar block commands ending script denied =
      let h = script.begins in
      some_verdict block (λ (split : HasVerdict block). elim split [
        | inl accepted ↦ some_replies accepted.0 (accepted_has_trees block accepted.0 accepted.1) no_texts commands
            (λ (told : (out : List ℕ) × AreTold accepted.0 no_texts commands out).
            let all : List ℕ = grammar_reply accepted.0 ++ told.0 in
            let replied = replies_told accepted.0 no_texts commands told.0 told.1 in
            denied (
              all ++ last_line ending,
              last_status ending,
              whole (with_grammar block commands) ending all script
                  (accepted.0, [], told.0, accepted.1, refl, replied, refl) refl refl,
            ))
        | inr refusal ↦
            let end : ℕ = length (text_of header) + length (text_of (grammar block)) in
            let begins : BeginsWithScript input (with_grammar block []) end h.4.0 =
            (h.0, h.1, h.2, h.3, (h.4.0, h.4.1, h.4.2, h.4.3, (refl, refl))) in
            denied (refusal.0, 2, refused block h.4.0 end begins refusal.1 refl)
      ])

  -- the input has a session by each script that it is
  session_of :
      (script : Script) (ending : Ending) → IsScript any_order input script ending → IsUndeniable (HasSession input)
  session_of nothing ending script denied =
      let session : IsSession serve_mode input (last_line ending) (last_status ending) =
      whole nothing ending [] script refl refl refl in
      denied (last_line ending, last_status ending, session)
  session_of header_alone ending script denied =
      let session : IsSession serve_mode input (last_line ending) (last_status ending) =
      whole header_alone ending [] script refl refl refl in
      denied (last_line ending, last_status ending, session)
  session_of (with_grammar block commands) ending script denied =
      session_of_grammar block commands ending script denied

-- no input is without a session
pub some_session : SomeSession
some_session input denied =
    some_script input (λ (found : HasScript input).
    session_of input found.0 found.1 found.2
    (λ (session : HasSession input). denied session.0 session.1 session.2))
