-- A command has one reply: a grammar is accepted in one way or refused by one line, and so on.
use Rattle.std.proofs.Common.{◌≡◌, ℕ, ◌<◌, ◌≤◌, inl, inr, List, [], ◌∷◌, ◌++◌, length, drop, get_or, sym, subst, ◌∙◌, ap, arith, length-append}
use Rattle.spec_lexing.specs.declared.token.Token.{Token}
use Rattle.spec_lexing.specs.Lexicon.{Lexicon}
use Rattle.spec_lexing.specs.Tokens.{AreTokensOf}
use Rattle.spec_grammar.specs.Grammars.{Grammar, symbol_count}
use Rattle.spec_lbnf.specs.Expansion.{expansion_of}
use Rattle.spec_lbnf.specs.declared.definition.Def.{Def}
use Rattle.spec_automata.specs.States.{HasTooManyStates}
use Rattle.spec_lbnf.specs.Checks.{IsUnfit}
use Rattle.spec_lbnf.specs.Faults.{Spells}
use Rattle.lbnf_readers.proofs.FaultLemmas.{one_file_of_defs, one_first_fault, spelled_or_faulty}
use Rattle.spec_lbnf.proofs.CheckLemmas.{fit_or_unfit, one_unfitness}
use Rattle.spec_lexing.specs.declared.kind_def.KindDef.{KindDef}
use Rattle.spec_script.specs.declared.question.TokenSpan.{TokenSpan}
use Rattle.spec_script.specs.Script.{Constituent, Query, has, tree, tokens_in, Command, opens, edits, ask}
use Rattle.spec_session.specs.GrammarReplies.{IsAccepted, IsRefused, IsRefusedFor, faulty, unfit}
use Rattle.spec_session.specs.GrammarReplies.{too_many_states, too_many_symbols, fault_reason, unfit_reason}
use Rattle.spec_session.specs.GrammarReplies.{symbols_reason, refusal_line}
use Rattle.spec_session.specs.Steps.{version_reply, State, with_text, IsCurrent, IsClosed, IsReply}
use Rattle.spec_session.specs.Steps.{OpensText, open_already, not_opened, opened}
use Rattle.spec_session.specs.Steps.{EditsText, none_to_edit, not_edited, is_edited}
use Rattle.spec_session.specs.Steps.{AnswersQuery, none_to_ask, answered}
use Rattle.spec_session.specs.TextRefusals.{HasTokens, edited, IsEditRefused}
use Rattle.spec_session.specs.Questions.{HasSymbol, IsSpan, IsNoSpan, IsWithin, IsOutside, first_of, end_of}
use Rattle.spec_session.specs.Questions.{IsDerived, IsQuestionRefused, of_no_symbol, of_no_span}
use Rattle.spec_session.specs.TokenAnswers.{IsTokensAnswer, refused_tokens, tokens_told, span_first, span_end}
use Rattle.spec_text.specs.declared.limits.TheConstants.{MAX_NODES}
use Rattle.spec_grammar.specs.Trees.{Tree}
use Rattle.spec_trees.specs.FirstTrees.{node_count}
use Rattle.spec_trees.specs.TreeText.{tree_text}
use Rattle.spec_session.specs.Lines.{as_line}
use Rattle.spec_session.specs.TreeAnswers.{IsTreeAnswer, refused_tree, no_tree, large_tree, printed_tree}
use Rattle.spec_session.proofs.TreeLemmas.{one_tree, tree_derives}
use Rattle.spec_session.proofs.TextLemmas.{same_tokens, one_text_refusal, text_or_refusal, one_edit_refusal, edit_or_refusal}
use Rattle.spec_session.specs.Answers.{IsHasAnswer, refused_has, yes, no, IsAnswer}

-- a block is accepted as one grammar
pub one_grammar : (block : List ℕ) (g other : Grammar) → IsAccepted block g → IsAccepted block other →
    g ≡ other
one_grammar block g other h k = h.3 ∙ ap expansion_of (one_file_of_defs block h.0 k.0 h.1 k.1) ∙ sym k.3

-- a block that is accepted is not refused
pub accepted_or_refused : (block line : List ℕ) (g : Grammar) → IsAccepted block g → IsRefused block line → ⊥
accepted_or_refused block line g h (reason, faulty fault first e, is) = spelled_or_faulty block h.0 fault h.1 first
accepted_or_refused block line g h (reason, unfit defs why spells unfit_so e, is) =
    fit_or_unfit h.0 why h.2.fit (rw (one_file_of_defs block h.0 defs h.1 spells) unfit_so)
accepted_or_refused block line g h (reason, too_many_states defs spells fit many e, is) =
    let same : h.0 ≡ defs = one_file_of_defs block h.0 defs h.1 spells in
    subst (λ (d : List Def). HasTooManyStates (expansion_of d).lexicon → ⊥) same h.2.few_states many
accepted_or_refused block line g h (reason, too_many_symbols defs spells fit few_states many e, is) =
    let same : h.0 ≡ defs = one_file_of_defs block h.0 defs h.1 spells in
    let few : symbol_count (expansion_of defs) ≤ 2048
    = subst (λ (d : List Def). symbol_count (expansion_of d) ≤ 2048) same h.2.few in
    omega (arith, few, many)

-- what a block spells has too many states, however it is read
same_states : (block : List ℕ) (defs others : List Def) → Spells block defs → Spells block others →
    HasTooManyStates (expansion_of defs).lexicon → HasTooManyStates (expansion_of others).lexicon
same_states block defs others spells spelled many =
    subst (λ (d : List Def). HasTooManyStates (expansion_of d).lexicon)
    (one_file_of_defs block defs others spells spelled) many

-- a block is refused for one reason
one_reason : (block reason other : List ℕ) → IsRefusedFor block reason → IsRefusedFor block other → reason ≡ other
one_reason block reason other (faulty fault first e) (faulty fault' first' e') =
    e ∙ ap fault_reason (one_first_fault block fault fault' first first') ∙ sym e'
one_reason block reason other (faulty fault first e) (unfit defs why spells unfit_so e') =
    absurd (spelled_or_faulty block defs fault spells first)
one_reason block reason other (faulty fault first e) (too_many_states defs spells fit many e') =
    absurd (spelled_or_faulty block defs fault spells first)
one_reason block reason other (faulty fault first e) (too_many_symbols defs spells fit few many e') =
    absurd (spelled_or_faulty block defs fault spells first)
one_reason block reason other (unfit defs why spells unfit_so e') (faulty fault first e) =
    absurd (spelled_or_faulty block defs fault spells first)
one_reason block reason other (unfit defs why spells unfit_so e) (unfit defs' why' spells' unfit_too e') =
    let again : IsUnfit defs why' = rw (one_file_of_defs block defs defs' spells spells') unfit_too in
    e ∙ ap unfit_reason (one_unfitness defs why why' unfit_so again) ∙ sym e'
one_reason block reason other (unfit defs why spells unfit_so e) (too_many_states defs' spells' fit many e') =
    absurd (fit_or_unfit defs why (rw (one_file_of_defs block defs defs' spells spells') fit) unfit_so)
one_reason block reason other (unfit defs why spells unfit_so e) (too_many_symbols defs' spells' fit few many e') =
    absurd (fit_or_unfit defs why (rw (one_file_of_defs block defs defs' spells spells') fit) unfit_so)
one_reason block reason other (too_many_states defs spells fit many e) (faulty fault first e') =
    absurd (spelled_or_faulty block defs fault spells first)
one_reason block reason other (too_many_states defs spells fit many e) (unfit defs' why spells' unfit_so e') =
    absurd (fit_or_unfit defs why fit (rw (one_file_of_defs block defs defs' spells spells') unfit_so))
one_reason block reason other (too_many_states defs spells fit many e) (too_many_states defs' spells' fit' many' e') =
    e ∙ sym e'
one_reason block reason other (too_many_states defs spells fit many e) (too_many_symbols defs' spells' fit' few many' e') =
    absurd (few (same_states block defs defs' spells spells' many))
one_reason block reason other (too_many_symbols defs spells fit few many e) (faulty fault first e') =
    absurd (spelled_or_faulty block defs fault spells first)
one_reason block reason other (too_many_symbols defs spells fit few many e) (unfit defs' why spells' unfit_so e') =
    absurd (fit_or_unfit defs why fit (rw (one_file_of_defs block defs defs' spells spells') unfit_so))
one_reason block reason other (too_many_symbols defs spells fit few many e) (too_many_states defs' spells' fit' many' e') =
    absurd (few (same_states block defs' defs spells' spells many'))
one_reason block reason other (too_many_symbols defs spells fit few many e) (too_many_symbols defs' spells' fit' few' many' e') =
    let same : defs ≡ defs' = one_file_of_defs block defs defs' spells spells' in
    e ∙ ap (λ (d : List Def). symbols_reason (symbol_count (expansion_of d))) same ∙ sym e'

-- so it is refused by one line
pub one_refusal : (block line other : List ℕ) → IsRefused block line → IsRefused block other → line ≡ other
one_refusal block line other (reason, why, is) (reason', why', is') =
    is ∙ ap refusal_line (one_reason block reason reason' why why') ∙ sym is'

-- what is a span of the text is not none
pub span_or_none : (size first end : ℕ) → IsNoSpan size first end → IsSpan size first end → ⊥
span_or_none size first end (inl before) span = omega (arith, before, span.0)
span_or_none size first end (inr behind) span = omega (arith, behind, span.1)

-- a question has one answer
module _ (g : Grammar) (tokens : List Token) (constituent : Constituent) where
  symbol_of : IsDerived g tokens constituent → HasSymbol g constituent
  symbol_of h = (h.symbol, h.is_symbol)

  outside : IsOutside (length tokens) constituent → IsWithin (length tokens) constituent → ⊥
  outside = span_or_none (length tokens) (first_of constituent) (end_of (length tokens) constituent)

  -- a question is refused with one line
  one_question_refusal : (line other : List ℕ) →
      IsQuestionRefused g (length tokens) constituent line →
      IsQuestionRefused g (length tokens) constituent other → line ≡ other
  one_question_refusal line other (of_no_symbol a e) (of_no_symbol b f) = e ∙ sym f
  one_question_refusal line other (of_no_symbol a e) (of_no_span b out f) = absurd (a b)
  one_question_refusal line other (of_no_span a out e) (of_no_symbol b f) = absurd (b a)
  one_question_refusal line other (of_no_span a out e) (of_no_span b out' f) = e ∙ sym f

  -- a question on a span of the text, and on a symbol of the grammar, is not refused
  not_refused : (line : List ℕ) → IsQuestionRefused g (length tokens) constituent line →
      HasSymbol g constituent → IsWithin (length tokens) constituent → ⊥
  not_refused line (of_no_symbol a e) known within = a known
  not_refused line (of_no_span a out e) known within = outside out within

  one_has_answer : (line other : List ℕ) →
      IsHasAnswer g tokens constituent line → IsHasAnswer g tokens constituent other → line ≡ other
  one_has_answer line other (refused_has h) (refused_has k) = one_question_refusal line other h k
  one_has_answer line other (refused_has h) (yes within derives f) =
      absurd (not_refused line h (symbol_of derives) within)
  one_has_answer line other (refused_has h) (no b within denied f) = absurd (not_refused line h b within)
  one_has_answer line other (yes within derives e) (refused_has k) =
      absurd (not_refused other k (symbol_of derives) within)
  one_has_answer line other (yes within derives e) (yes within' derives' f) = e ∙ sym f
  one_has_answer line other (yes within derives e) (no b within' denied f) = absurd (denied derives)
  one_has_answer line other (no a within denied e) (refused_has k) = absurd (not_refused other k a within)
  one_has_answer line other (no a within denied e) (yes within' derives f) = absurd (denied derives)
  one_has_answer line other (no a within denied e) (no b within' denied' f) = e ∙ sym f

  -- a tree is not too large where it is not
  large_or_not : (t other : Tree) → t ≡ other → MAX_NODES < node_count t → node_count other ≤ MAX_NODES → ⊥
  large_or_not t other same many few =
      let again : MAX_NODES < node_count other = subst (λ (u : Tree). MAX_NODES < node_count u) same many in
      omega (arith, again, few)

  -- what the first tree is has one answer
  one_tree_answer : (text line other : List ℕ) →
      IsTreeAnswer g text tokens constituent line → IsTreeAnswer g text tokens constituent other → line ≡ other
  one_tree_answer text line other (refused_tree h) (refused_tree k) = one_question_refusal line other h k
  one_tree_answer text line other (refused_tree h) (no_tree b within denied f) =
      absurd (not_refused line h b within)
  one_tree_answer text line other (refused_tree h) (large_tree t within first many f) =
      absurd (not_refused line h first.known within)
  one_tree_answer text line other (refused_tree h) (printed_tree t within first few f) =
      absurd (not_refused line h first.known within)
  one_tree_answer text line other (no_tree a within denied e) (refused_tree k) =
      absurd (not_refused other k a within)
  one_tree_answer text line other (no_tree a within denied e) (no_tree b within' denied' f) = e ∙ sym f
  one_tree_answer text line other (no_tree a within denied e) (large_tree t within' first many f) =
      absurd (denied (tree_derives g tokens constituent t first))
  one_tree_answer text line other (no_tree a within denied e) (printed_tree t within' first few f) =
      absurd (denied (tree_derives g tokens constituent t first))
  one_tree_answer text line other (large_tree t within first many e) (refused_tree k) =
      absurd (not_refused other k first.known within)
  one_tree_answer text line other (large_tree t within first many e) (no_tree b within' denied f) =
      absurd (denied (tree_derives g tokens constituent t first))
  one_tree_answer text line other (large_tree t within first many e) (large_tree t' within' first' many' f) =
      e ∙ sym f
  one_tree_answer text line other (large_tree t within first many e) (printed_tree t' within' first' few f) =
      absurd (large_or_not t t' (one_tree g tokens constituent t t' first first') many few)
  one_tree_answer text line other (printed_tree t within first few e) (refused_tree k) =
      absurd (not_refused other k first.known within)
  one_tree_answer text line other (printed_tree t within first few e) (no_tree b within' denied f) =
      absurd (denied (tree_derives g tokens constituent t first))
  one_tree_answer text line other (printed_tree t within first few e) (large_tree t' within' first' many f) =
      absurd (large_or_not t' t (one_tree g tokens constituent t' t first' first) many few)
  one_tree_answer text line other (printed_tree t within first few e) (printed_tree t' within' first' few' f) =
      e ∙ ap (λ (u : Tree). as_line (tree_text g text tokens u)) (one_tree g tokens constituent t t' first first')
      ∙ sym f

-- so has a question on the tokens of a span
one_tokens_answer : (kinds : List KindDef) (text : List ℕ) (tokens : List Token) (span : TokenSpan)
    (line other : List ℕ) → IsTokensAnswer kinds text tokens span line →
    IsTokensAnswer kinds text tokens span other → line ≡ other
one_tokens_answer kinds text tokens span line other (refused_tokens outside e) (refused_tokens outside' f) = e ∙ sym f
one_tokens_answer kinds text tokens span line other (refused_tokens outside e) (tokens_told within f) =
    absurd (span_or_none (length tokens) (span_first span) (span_end (length tokens) span) outside within)
one_tokens_answer kinds text tokens span line other (tokens_told within e) (refused_tokens outside f) =
    absurd (span_or_none (length tokens) (span_first span) (span_end (length tokens) span) outside within)
one_tokens_answer kinds text tokens span line other (tokens_told within e) (tokens_told within' f) = e ∙ sym f

-- and each query
one_answer : (g : Grammar) (text : List ℕ) (tokens : List Token) (query : Query) (line other : List ℕ) →
    IsAnswer g text tokens query line → IsAnswer g text tokens query other → line ≡ other
one_answer g text tokens (has constituent) line other h k = one_has_answer g tokens constituent line other h k
one_answer g text tokens (tree constituent) line other h k =
    one_tree_answer g tokens constituent text line other h k
one_answer g text tokens (tokens_in span) line other h k =
    one_tokens_answer g.lexicon.kinds text tokens span line other h k

-- one text is the last
one_last : (older : List (List ℕ)) (text : List ℕ) (others : List (List ℕ)) (other : List ℕ) →
    older ++ text ∷ [] ≡ others ++ other ∷ [] → text ≡ other
one_last [] text [] other e = ap (λ texts. get_or texts 0 []) e
one_last [] text (x ∷ others) other e = absurd (omega (arith, ap length e, length-append others (other ∷ [])))
one_last (x ∷ older) text [] other e = absurd (omega (arith, ap length e, length-append older (text ∷ [])))
one_last (x ∷ older) text (y ∷ others) other e = one_last older text others other (ap (drop 1) e)

-- one text is current
one_current : (state : State) (text other : List ℕ) → IsCurrent state text → IsCurrent state other →
    text ≡ other
one_current state text other h k = one_last h.0 text k.0 other (sym h.1 ∙ k.1)

-- no text is current where none is open
no_current : (state : State) (text : List ℕ) → IsClosed state → IsCurrent state text → ⊥
no_current state text closed h =
    omega (arith, ap length (sym closed ∙ h.1), length-append h.0 (text ∷ []))

-- one line replies, and one state is left
abbrev pub AreSameReplies : List ℕ → List ℕ → State → State → Type 0
AreSameReplies line other after final = (line ≡ other) × (after ≡ final)

-- opening a text has one reply, and leaves one state
one_opening : (lexicon : Lexicon) (before : State) (text line other : List ℕ) (after final : State) →
    OpensText lexicon before text line after → OpensText lexicon before text other final →
    AreSameReplies line other after final
one_opening lexicon before text line other after final (open_already o e d) (open_already o' f c) =
    (e ∙ sym f, d ∙ sym c)
one_opening lexicon before text line other after final (open_already o e d) (not_opened k r c) =
    absurd (no_current before o.0 k o.1)
one_opening lexicon before text line other after final (open_already o e d) (opened tokens k fit h f c) =
    absurd (no_current before o.0 k o.1)
one_opening lexicon before text line other after final (not_opened k r d) (open_already o f c) =
    absurd (no_current before o.0 k o.1)
one_opening lexicon before text line other after final (not_opened k r d) (not_opened k' r' c) =
    (one_text_refusal lexicon text line other r r', d ∙ sym c)
one_opening lexicon before text line other after final (not_opened k r d) (opened tokens k' fit h f c) =
    absurd (text_or_refusal lexicon text line tokens fit h r)
one_opening lexicon before text line other after final (opened tokens k fit h e d) (open_already o f c) =
    absurd (no_current before o.0 k o.1)
one_opening lexicon before text line other after final (opened tokens k fit h e d) (not_opened k' r c) =
    absurd (text_or_refusal lexicon text other tokens fit h r)
one_opening lexicon before text line other after final (opened tokens k fit h e d) (opened others k' fit' h' f c) =
    let same : tokens ≡ others = same_tokens lexicon text tokens others h.are_tokens h'.are_tokens in
    (e ∙ ap (λ (ts : List Token). version_reply 0 (length ts)) same ∙ sym f, d ∙ sym c)

-- an edit of one current text is one of another, which is the same
same_edit : (lexicon : Lexicon) (text other : List ℕ) (at deleted : ℕ) (inserted line : List ℕ) → text ≡ other →
    IsEditRefused other at deleted inserted lexicon line → IsEditRefused text at deleted inserted lexicon line
same_edit lexicon text other at deleted inserted line e h =
    subst (λ (t : List ℕ). IsEditRefused t at deleted inserted lexicon line) (sym e) h

-- an edit has one reply, and leaves one state
module _ (lexicon : Lexicon) (before : State) (at deleted : ℕ) (inserted line other : List ℕ) (after final : State) where
  -- of two edited texts
  one_edited : (text : List ℕ) (tokens : List Token) (text' : List ℕ) (others : List Token) → text ≡ text' →
      HasTokens lexicon (edited text at deleted inserted) tokens →
      HasTokens lexicon (edited text' at deleted inserted) others →
      line ≡ version_reply (length before.texts) (length tokens) →
      other ≡ version_reply (length before.texts) (length others) →
      after ≡ with_text before (edited text at deleted inserted) →
      final ≡ with_text before (edited text' at deleted inserted) → AreSameReplies line other after final
  one_edited text tokens text' others one h h' e f d c =
      let Has : List ℕ → Type 0 = λ (t : List ℕ). HasTokens lexicon (edited t at deleted inserted) others in
      let again : HasTokens lexicon (edited text at deleted inserted) others = subst Has (sym one) h' in
      let same : tokens ≡ others =
      same_tokens lexicon (edited text at deleted inserted) tokens others h.are_tokens again.are_tokens in (
        e ∙ ap (λ (ts : List Token). version_reply (length before.texts) (length ts)) same ∙ sym f,
        d ∙ ap (λ (t : List ℕ). with_text before (edited t at deleted inserted)) one ∙ sym c,
      )

  one_edit : EditsText lexicon before at deleted inserted line after →
      EditsText lexicon before at deleted inserted other final → AreSameReplies line other after final
  one_edit (none_to_edit k e d) (none_to_edit k' f c) = (e ∙ sym f, d ∙ sym c)
  one_edit (none_to_edit k e d) (not_edited text cur r c) = absurd (no_current before text k cur)
  one_edit (none_to_edit k e d) (is_edited text tokens cur room keeps h f c) = absurd (no_current before text k cur)
  one_edit (not_edited text cur r d) (none_to_edit k f c) = absurd (no_current before text k cur)
  one_edit (not_edited text cur r d) (not_edited text' cur' r' c) =
      let one : text ≡ text' = one_current before text text' cur cur' in (
        one_edit_refusal text at deleted inserted lexicon line other r
            (same_edit lexicon text text' at deleted inserted other one r'),
        d ∙ sym c,
      )
  one_edit (not_edited text cur r d) (is_edited text' tokens cur' room keeps h f c) =
      let one : text' ≡ text = one_current before text' text cur' cur in
      absurd (edit_or_refusal text' at deleted inserted lexicon line tokens room keeps h
      (same_edit lexicon text' text at deleted inserted line one r))
  one_edit (is_edited text tokens cur room keeps h e d) (none_to_edit k f c) = absurd (no_current before text k cur)
  one_edit (is_edited text tokens cur room keeps h e d) (not_edited text' cur' r c) =
      let one : text ≡ text' = one_current before text text' cur cur' in
      absurd (edit_or_refusal text at deleted inserted lexicon other tokens room keeps h
      (same_edit lexicon text text' at deleted inserted other one r))
  one_edit (is_edited text tokens cur room keeps h e d) (is_edited text' others cur' room' keeps' h' f c) =
      one_edited text tokens text' others (one_current before text text' cur cur') h h' e f d c

-- a question has one reply
one_query_answer : (g : Grammar) (state : State) (query : Query) (line other : List ℕ) →
    AnswersQuery g state query line → AnswersQuery g state query other → line ≡ other
one_query_answer g state query line other (none_to_ask k e) (none_to_ask k' f) = e ∙ sym f
one_query_answer g state query line other (none_to_ask k e) (answered text tokens cur are a) =
    absurd (no_current state text k cur)
one_query_answer g state query line other (answered text tokens cur are a) (none_to_ask k f) =
    absurd (no_current state text k cur)
one_query_answer g state query line other (answered text tokens cur are a) (answered text' others cur' are' b) =
    let one_text : text ≡ text' = one_current state text text' cur cur' in
    let again : AreTokensOf g.lexicon text others = rw one_text are' in
    let same : tokens ≡ others = same_tokens g.lexicon text tokens others are again in
    one_answer g text tokens query line other a (rw (one_text, same) b)

-- a command has one reply, and leaves one state
pub one_reply : (g : Grammar) (before : State) (command : Command) (line other : List ℕ) (after final : State) →
    IsReply g before command line after → IsReply g before command other final →
    AreSameReplies line other after final
one_reply g before (opens text) line other after final h k =
    one_opening g.lexicon before text line other after final h k
one_reply g before (edits at deleted inserted) line other after final h k =
    one_edit g.lexicon before at deleted inserted line other after final h k
one_reply g before (ask query) line other after final h k =
    (one_query_answer g before query line other h.0 k.0, h.1 ∙ sym k.1)
