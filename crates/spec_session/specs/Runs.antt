-- The run of a session behind its grammar: its steps in turn. What the session replies, and the
-- texts that it leaves, are read off the run.
use Rattle.std.specs.Prelude.{◌≡◌, ℕ, List, [], ◌∷◌, ◌++◌}
use Rattle.spec_grammar.specs.Grammars.{Grammar}
use Rattle.spec_script.specs.Script.{Command}
use Rattle.spec_session.specs.Steps.{State, Step, IsStep}

-- the steps follow one another from this state
abbrev pub IsRun : Grammar → State → List Step → Type 0
IsRun g from [] = Unit {0}
IsRun g from (step ∷ steps) = (step.before ≡ from) × IsStep g step × IsRun g step.after steps

-- the commands of a run
abbrev pub commands_of : List Step → List Command
commands_of [] = []
commands_of (step ∷ steps) = step.command ∷ commands_of steps

-- the replies of a run, one after another
abbrev pub replies_of : List Step → List ℕ
replies_of [] = []
replies_of (step ∷ steps) = step.line ++ replies_of steps

-- the state in which a run from this state ends
abbrev pub state_after : State → List Step → State
state_after from [] = from
state_after from (step ∷ steps) = state_after step.after steps

-- the steps are the run of these commands from this state
pub record IsRunOf (g : Grammar) (from : State) (commands : List Command) (steps : List Step)
    : Type 0 where
  pub run : IsRun g from steps
  pub of_commands : commands_of steps ≡ commands

-- the bytes are the replies to the commands, in order
abbrev pub AreReplies : Grammar → State → List Command → List ℕ → Type 0
AreReplies g from commands out =
    (steps : List Step) × IsRunOf g from commands steps × (out ≡ replies_of steps)
