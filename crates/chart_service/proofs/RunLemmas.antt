-- A run with one step more.
use Rattle.std.proofs.Common.{◌≡◌, List, [], ◌∷◌, ◌++◌, refl, sym, ◌∙◌, ap, append_assoc, append-nil}
use Rattle.spec_grammar.specs.Grammars.{Grammar}
use Rattle.spec_script.specs.Script.{Command}
use Rattle.spec_session.specs.Steps.{State, Step, IsStep}
use Rattle.spec_session.specs.Runs.{IsRun, commands_of, replies_of, state_after}

-- it is a run
pub run_more : (g : Grammar) (from : State) (steps : List Step) (step : Step) → IsRun g from steps
    → IsStep g step → step.before ≡ state_after from steps → IsRun g from (steps ++ step ∷ [])
run_more g from [] step r s e = (e, s, tt)
run_more g from (first ∷ steps) step r s e = (r.0, r.1, run_more g first.after steps step r.2 s e)

-- with one command more
pub commands_more : (steps : List Step) (step : Step)
    → commands_of (steps ++ step ∷ []) ≡ commands_of steps ++ step.command ∷ []
commands_more [] step = refl
commands_more (first ∷ steps) step =
    ap (λ (commands : List Command). first.command ∷ commands) (commands_more steps step)

-- one line more
pub lines_more : (steps : List Step) (step : Step)
    → replies_of (steps ++ step ∷ []) ≡ replies_of steps ++ step.line
lines_more [] step = append-nil step.line
lines_more (first ∷ steps) step =
    ap (λ lines. first.line ++ lines) (lines_more steps step)
    ∙ sym (append_assoc first.line (replies_of steps) step.line)

-- and the state that the step leaves
pub after_more : (from : State) (steps : List Step) (step : Step)
    → state_after from (steps ++ step ∷ []) ≡ step.after
after_more from [] step = refl
after_more from (first ∷ steps) step = after_more first.after steps step
