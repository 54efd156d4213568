-- The lines of runs: commands have one list of replies, which begins with those to the first commands.
use Rattle.std.proofs.Common.{◌≡◌, ℕ, List, [], ◌∷◌, ◌++◌, length, drop, refl, sym, ◌∙◌, ap, arith}
use Rattle.std.specs.List.{concat}
use Rattle.spec_grammar.specs.Grammars.{Grammar}
use Rattle.spec_script.specs.Script.{Command}
use Rattle.spec_session.specs.Steps.{State, Step}
use Rattle.spec_session.specs.Runs.{IsRun, IsRunOf, commands_of, replies_of, AreReplies}
use Rattle.spec_session.specs.Beginnings.{lines_of, AreRepliesTo, OneListOfReplies, FirstRepliesComeFirst, SomeReplies}
use Rattle.spec_session.proofs.RunLemmas.{AreTold, first_command, one_run, replies_told}
use Rattle.spec_session.proofs.ExistenceLemmas.{accepted_has_trees, some_replies}

-- one after another the lines of a run are its replies
replies_are_lines : (steps : List Step) → replies_of steps ≡ concat (lines_of steps)
replies_are_lines [] = refl
replies_are_lines (step ∷ steps) = ap (λ bytes. step.line ++ bytes) (replies_are_lines steps)

-- so a list of replies gives the bytes of the replies
pub bytes_of_lines : (g : Grammar) (from : State) (commands : List Command) (lines : List (List ℕ)) →
    AreRepliesTo g from commands lines → AreReplies g from commands (concat lines)
bytes_of_lines g from commands lines h = (h.0, h.1, ap concat h.2 ∙ sym (replies_are_lines h.0))

-- the lines of steps and of others behind them
lines_behind : (steps others : List Step) → lines_of (steps ++ others) ≡ lines_of steps ++ lines_of others
lines_behind [] others = refl
lines_behind (step ∷ steps) others = ap (λ lines. step.line ∷ lines) (lines_behind steps others)

-- the run begins with a run of these commands
abbrev BeginsWithRun : Grammar → State → List Command → List Step → Type 0
BeginsWithRun g from commands steps =
    (first others : List Step) × IsRunOf g from commands first × (steps ≡ first ++ others)

-- a run of commands and others behind them begins with one of the commands
run_begins : (g : Grammar) (from : State) (commands behind : List Command) (steps : List Step) →
    IsRun g from steps → commands_of steps ≡ commands ++ behind → BeginsWithRun g from commands steps
run_begins g from [] behind steps run same = ([], steps, record { run = tt; of_commands = refl }, refl)
run_begins g from (command ∷ commands) behind [] run same = absurd (omega (arith, ap length same))
run_begins g from (command ∷ commands) behind (step ∷ steps) run same =
    let one : step.command ≡ command =
    first_command step.command command (commands_of steps) (commands ++ behind) same in
    let tail = run_begins g step.after commands behind steps run.2 (ap (drop 1) same) in
    let front : step.command ∷ commands_of tail.0 ≡ command ∷ commands =
    ap (λ (c : Command). c ∷ commands_of tail.0) one
    ∙ ap (λ (others : List Command). command ∷ others) tail.2.of_commands in (
      step ∷ tail.0,
      tail.1,
      record { run = (run.0, run.1, tail.2.run); of_commands = front },
      ap (λ (others : List Step). step ∷ others) tail.3,
    )

pub one_list : OneListOfReplies
one_list g from commands lines others h k =
    h.2 ∙ ap lines_of (one_run g from commands h.0 k.0 h.1 k.1) ∙ sym k.2

pub first_list : FirstRepliesComeFirst
first_list g from commands behind lines all h k =
    let front = run_begins g from commands behind k.0 k.1.run k.1.of_commands in
    let one : front.0 ≡ h.0 = one_run g from commands front.0 h.0 front.2 h.1 in
    let first : lines_of front.0 ≡ lines = ap lines_of one ∙ sym h.2 in (
      lines_of front.1,
      k.2 ∙ ap lines_of front.3 ∙ lines_behind front.0 front.1
          ∙ ap (λ (these : List (List ℕ)). these ++ lines_of front.1) first,
    )

pub some_list : SomeReplies
some_list block g from commands accepted denied =
    some_replies g (accepted_has_trees block g accepted) from commands
    (λ (told : (out : List ℕ) × AreTold g from commands out).
    let replies = replies_told g from commands told.0 told.1 in
    denied (lines_of replies.0) (replies.0, replies.1, refl))
