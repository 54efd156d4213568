-- The steps of a session behind its grammar: the reply to each command, and the state behind it.
use Rattle.std.specs.Prelude.{◌≡◌, ℕ, List, [], ◌∷◌, ◌++◌, length, codes, decimal}
use Rattle.spec_lexing.specs.declared.token.Token.{Token}
use Rattle.spec_lexing.specs.Lexicon.{Lexicon}
use Rattle.spec_lexing.specs.Tokens.{AreTokensOf}
use Rattle.spec_grammar.specs.Grammars.{Grammar}
use Rattle.spec_script.specs.Script.{Query, Command, opens, edits, ask}
use Rattle.spec_session.specs.Lines.{as_line}
use Rattle.spec_session.specs.Answers.{IsAnswer}
use Rattle.spec_session.specs.TextRefusals.{closed_line, open_line, IsFitText, HasTokens}
use Rattle.spec_session.specs.TextRefusals.{IsTextRefused, edited, HasRoom, KeepsScalars}
use Rattle.spec_session.specs.TextRefusals.{IsEditRefused}

-- the reply to a text: its version's number and how many tokens it has
abbrev pub version_reply : ℕ → ℕ → List ℕ
version_reply number tokens =
    codes "version " ++ (decimal number ++ (codes " tokens " ++ as_line (decimal tokens)))

-- the state of a session behind its grammar: the texts so far, the current one last
pub record State : Type 0 where
  pub texts : List (List ℕ)

-- the state before the first text
abbrev pub no_texts : State
no_texts = record { texts = [] }

-- the state once this text is the next version
abbrev pub with_text : State → List ℕ → State
with_text state text = record { texts = state.texts ++ text ∷ [] }

-- this text is the current one, the last
abbrev pub IsCurrent : State → List ℕ → Type 0
IsCurrent state text = (older : List (List ℕ)) × (state.texts ≡ older ++ text ∷ [])

-- no text is open
abbrev pub IsClosed : State → Type 0
IsClosed state = state.texts ≡ []

-- a text is open
abbrev pub IsOpen : State → Type 0
IsOpen state = (text : List ℕ) × IsCurrent state text

-- what opening a text replies, and the state that it leaves: it is refused where a text is open, or
-- else for its bytes or tokens, and then nothing changes; else it is version 0
pub data OpensText (lexicon : Lexicon) (before : State) (text line : List ℕ) (after : State)
    : Type 0 where
  open_already : IsOpen before → line ≡ open_line → after ≡ before
      → OpensText lexicon before text line after
  not_opened : IsClosed before → IsTextRefused lexicon text line → after ≡ before
      → OpensText lexicon before text line after
  opened : (tokens : List Token) → IsClosed before → IsFitText text
      → HasTokens lexicon text tokens → line ≡ version_reply 0 (length tokens)
      → after ≡ with_text before text → OpensText lexicon before text line after

-- what an edit replies, and the state that it leaves: it is refused where no text is open, or else
-- since the current text cannot be edited so, and then nothing changes; else the edited text is the
-- next version
pub data EditsText (lexicon : Lexicon) (before : State) (at deleted : ℕ) (inserted line : List ℕ)
    (after : State) : Type 0 where
  none_to_edit : IsClosed before → line ≡ closed_line → after ≡ before
      → EditsText lexicon before at deleted inserted line after
  not_edited : (text : List ℕ) → IsCurrent before text
      → IsEditRefused text at deleted inserted lexicon line → after ≡ before
      → EditsText lexicon before at deleted inserted line after
  is_edited : (text : List ℕ) (tokens : List Token) → IsCurrent before text
      → HasRoom text at deleted inserted → KeepsScalars text at deleted inserted
      → HasTokens lexicon (edited text at deleted inserted) tokens
      → line ≡ version_reply (length before.texts) (length tokens)
      → after ≡ with_text before (edited text at deleted inserted)
      → EditsText lexicon before at deleted inserted line after

-- what a question replies: it is refused where no text is open, and else answered on the current one
pub data AnswersQuery (g : Grammar) (state : State) (query : Query) (line : List ℕ) : Type 0 where
  none_to_ask : IsClosed state → line ≡ closed_line → AnswersQuery g state query line
  answered : (text : List ℕ) (tokens : List Token) → IsCurrent state text
      → AreTokensOf g.lexicon text tokens → IsAnswer g text tokens query line
      → AnswersQuery g state query line

-- the line replies to the command, under a grammar and in a state, and this is the state behind it;
-- a question changes nothing
abbrev pub IsReply : Grammar → State → Command → List ℕ → State → Type 0
IsReply g before (opens text) line after = OpensText g.lexicon before text line after
IsReply g before (edits at deleted inserted) line after =
    EditsText g.lexicon before at deleted inserted line after
IsReply g before (ask query) line after = AnswersQuery g before query line × (after ≡ before)

-- one step: a command, the line that replies to it, and the states before and after it
pub record Step : Type 0 where
  pub command : Command
  pub line : List ℕ
  pub before : State
  pub after : State

-- the step is one that a session under the grammar takes
abbrev pub IsStep : Grammar → Step → Type 0
IsStep g step = IsReply g step.before step.command step.line step.after
