-- A run, one step after another: what it replies to its first command, and what to those behind it.
use Rattle.std.proofs.Common.{◌≡◌, ℕ, List, [], ◌∷◌, ◌++◌, length, drop, get_or, refl, sym, ◌∙◌, ap, subst, arith}
use Rattle.spec_grammar.specs.Grammars.{Grammar}
use Rattle.spec_script.specs.Script.{Command, opens, ask}
use Rattle.spec_session.specs.Steps.{State, IsReply, Step, IsStep}
use Rattle.spec_session.specs.Runs.{IsRun, commands_of, replies_of, AreReplies}
use Rattle.spec_session.specs.Laws.{OneRun}
use Rattle.spec_session.proofs.RepliesLemmas.{one_reply}

-- the bytes are the reply to the first command, and then those to the others
abbrev pub AreTold : Grammar → State → List Command → List ℕ → Type 0
AreTold g from [] out = out ≡ []
AreTold g from (command ∷ commands) out =
    (line : List ℕ) × (rest : List ℕ) × (after : State) × IsReply g from command line after
    × (out ≡ line ++ rest) × AreTold g after commands rest

-- the first of some commands
pub first_command : (command other : Command) (commands others : List Command) →
    command ∷ commands ≡ other ∷ others → command ≡ other
first_command command other commands others e = ap (λ (all : List Command). get_or all 0 (opens [])) e

-- where a run begins with a step
module _ (g : Grammar) (from : State) (command : Command) (step : Step)
    (starts : step.before ≡ from) (same : step.command ≡ command) (is : IsStep g step) where
  -- the command has its reply, and leaves its state
  reply_is : IsReply g from command step.line step.after
  reply_is =
      let IsFor : Command → Type 0 = λ (c : Command). IsReply g step.before c step.line step.after in
      let IsIn : State → Type 0 = λ (s : State). IsReply g s command step.line step.after in
      subst IsIn starts (subst IsFor same is)

-- what a run replies is told one after another
told_of_run : (g : Grammar) (from : State) (commands : List Command) (steps : List Step) (out : List ℕ) →
    IsRun g from steps → commands_of steps ≡ commands → out ≡ replies_of steps → AreTold g from commands out
told_of_run g from [] [] out run same is = is
told_of_run g from [] (step ∷ steps) out run same is = absurd (omega (arith, ap length same))
told_of_run g from (command ∷ commands) [] out run same is = absurd (omega (arith, ap length same))
told_of_run g from (command ∷ commands) (step ∷ steps) out run same is =
    let first = first_command step.command command (commands_of steps) commands same in (
      step.line,
      replies_of steps,
      step.after,
      reply_is g from command step run.0 first run.1,
      is,
      told_of_run g step.after commands steps (replies_of steps) run.2 (ap (drop 1) same) refl,
    )

pub told_of : (g : Grammar) (from : State) (commands : List Command) (out : List ℕ) →
    AreReplies g from commands out → AreTold g from commands out
told_of g from commands out h = told_of_run g from commands h.0 out h.1.run h.1.of_commands h.2

-- and what is told so is the replies of a run
pub replies_told : (g : Grammar) (from : State) (commands : List Command) (out : List ℕ) →
    AreTold g from commands out → AreReplies g from commands out
replies_told g from [] out h = ([], record { run = tt; of_commands = refl }, h)
replies_told g from (command ∷ commands) out (line, rest, after, reply, is, h) =
    let behind = replies_told g after commands rest h in
    let step : Step = record { command = command; line = line; before = from; after = after } in
    let is_step : IsStep g step = reply in
    let front : command ∷ commands_of behind.0 ≡ command ∷ commands =
    ap (λ others. command ∷ others) behind.1.of_commands in (
      step ∷ behind.0,
      record { run = (refl, is_step, behind.1.run); of_commands = front },
      is ∙ ap (λ bytes. line ++ bytes) behind.2,
    )

-- a step of these parts
abbrev step_of : Command → List ℕ → State → State → Step
step_of command line before after = record { command = command; line = line; before = before; after = after }

-- two steps from one state with one command are the same
one_step : (g : Grammar) (step other : Step) → step.before ≡ other.before → step.command ≡ other.command →
    IsStep g step → IsStep g other → step ≡ other
one_step g step other starts same h k =
    let replies = one_reply g other.before other.command step.line other.line step.after other.after
    (reply_is g other.before other.command step starts same h) k in
    let line : step.line ≡ other.line = replies.0 in
    let after : step.after ≡ other.after = replies.1 in
    ap (λ (c : Command). step_of c step.line step.before step.after) same
    ∙ ap (λ (l : List ℕ). step_of other.command l step.before step.after) line
    ∙ ap (λ (s : State). step_of other.command other.line s step.after) starts
    ∙ ap (λ (s : State). step_of other.command other.line other.before s) after

-- so commands have one run
same_run : (g : Grammar) (from : State) (steps others : List Step) → commands_of steps ≡ commands_of others →
    IsRun g from steps → IsRun g from others → steps ≡ others
same_run g from [] [] same h k = refl
same_run g from [] (other ∷ others) same h k = absurd (omega (arith, ap length same))
same_run g from (step ∷ steps) [] same h k = absurd (omega (arith, ap length same))
same_run g from (step ∷ steps) (other ∷ others) same h k =
    let first = first_command step.command other.command (commands_of steps) (commands_of others) same in
    let one : step ≡ other = one_step g step other (h.0 ∙ sym k.0) first h.1 k.1 in
    let IsFrom : State → Type 0 = λ (s : State). IsRun g s others in
    let again : IsRun g step.after others = subst IsFrom (ap (λ (s : Step). s.after) (sym one)) k.2 in
    let behind : steps ≡ others = same_run g step.after steps others (ap (drop 1) same) h.2 again in
    ap (λ (s : Step). s ∷ steps) one ∙ ap (λ (more : List Step). other ∷ more) behind

pub one_run : OneRun
one_run g from commands steps others h k =
    same_run g from steps others (h.of_commands ∙ sym k.of_commands) h.run k.run
