-- What is written of a session before the whole of it is: at least the replies to the commands that
-- lie well before the end of what was given.
use Rattle.std.specs.Prelude.{◌≡◌, ℕ, ◌<◌, List, [], ◌∷◌, ◌++◌, length}
use Rattle.std.specs.List.{concat}
use Rattle.spec_grammar.specs.Grammars.{Grammar}
use Rattle.spec_script.specs.Script.{Command, with_grammar, BeginsWithScript}
use Rattle.spec_session.specs.GrammarReplies.{IsAccepted, grammar_reply}
use Rattle.spec_session.specs.Steps.{State, no_texts, Step}
use Rattle.spec_session.specs.Runs.{IsRunOf}

-- the lines of a run, one for each step
abbrev pub lines_of : List Step → List (List ℕ)
lines_of [] = []
lines_of (step ∷ steps) = step.line ∷ lines_of steps

-- the lines are the replies to these commands, in turn, from this state
abbrev pub AreRepliesTo : Grammar → State → List Command → List (List ℕ) → Type 0
AreRepliesTo g from commands lines =
    (steps : List Step) × IsRunOf g from commands steps × (lines ≡ lines_of steps)

-- how many bytes at most may have been given behind a command before its reply is written
abbrev pub early_bytes : ℕ
early_bytes = 4096

-- what was written begins with the replies to the grammar and to all commands that end more than
-- `early_bytes` before the end of what was given: wherever this begins with an accepted grammar and
-- commands, and goes on with more bytes than that
abbrev pub BeginsWithEarlyReplies : List ℕ → List ℕ → Type 0
BeginsWithEarlyReplies given out =
    (block : List ℕ) (commands : List Command) (at : ℕ) (rest : List ℕ) (g : Grammar)
    (lines : List (List ℕ)) →
    BeginsWithScript given (with_grammar block commands) at rest → early_bytes < length rest →
    IsAccepted block g → AreRepliesTo g no_texts commands lines →
    (more : List ℕ) × (out ≡ (grammar_reply g ++ concat lines) ++ more)

-- two lists of replies to the same commands from the same state are the same
abbrev pub OneListOfReplies : Type 0
OneListOfReplies =
    (g : Grammar) (from : State) (commands : List Command) (lines others : List (List ℕ)) →
    AreRepliesTo g from commands lines → AreRepliesTo g from commands others → lines ≡ others

-- the replies to the first of some commands are the first of their replies
abbrev pub FirstRepliesComeFirst : Type 0
FirstRepliesComeFirst =
    (g : Grammar) (from : State) (commands behind : List Command) (lines all : List (List ℕ)) →
    AreRepliesTo g from commands lines → AreRepliesTo g from (commands ++ behind) all →
    (more : List (List ℕ)) × (all ≡ lines ++ more)

-- under an accepted grammar no commands are without replies (by two denials, since no definition
-- decides what a category derives)
abbrev pub SomeReplies : Type 0
SomeReplies =
    (block : List ℕ) (g : Grammar) (from : State) (commands : List Command) → IsAccepted block g →
    ((lines : List (List ℕ)) → AreRepliesTo g from commands lines → ⊥) → ⊥
