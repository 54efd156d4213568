-- What is true of each input: it has one session, whose replies come in order.
use Rattle.std.specs.Prelude.{◌≡◌, ℕ, List, [], ◌++◌}
use Rattle.spec_script.specs.Script.{Command, Script, with_grammar, IsInOrder, BeginsWithScript}
use Rattle.spec_script.specs.Script.{Ending, IsScript}
use Rattle.spec_grammar.specs.Grammars.{Grammar}
use Rattle.spec_session.specs.GrammarReplies.{IsRefused}
use Rattle.spec_session.specs.Steps.{State, Step}
use Rattle.spec_session.specs.Runs.{IsRunOf}
use Rattle.spec_session.specs.Sessions.{Mode, AreAllReplies, last_line, last_status}
use Rattle.spec_session.specs.Sessions.{IsSession}

-- commands have one run from a state
abbrev pub OneRun : Type 0
OneRun =
    (g : Grammar) (from : State) (commands : List Command) (steps others : List Step) →
    IsRunOf g from commands steps → IsRunOf g from commands others → steps ≡ others

-- any two sessions of an input in this mode write the same bytes and end with the same status
abbrev pub OneSession : Mode → Type 0
OneSession mode =
    (input out other : List ℕ) (status final : ℕ) →
    IsSession mode input out status → IsSession mode input other final →
    (out ≡ other) × (status ≡ final)

-- where an input begins with a script, in order, its session writes the replies to it first
abbrev pub RepliesComeFirst : Mode → Type 0
RepliesComeFirst mode =
    (input : List ℕ) (front : Script) (at : ℕ) (rest told : List ℕ) →
    BeginsWithScript input front at rest → IsInOrder mode.form front →
    AreAllReplies mode front told →
    (out : List ℕ) (status : ℕ) → IsSession mode input out status →
    (more : List ℕ) × (out ≡ told ++ more)

-- where an input is a script that has replies, its session writes these and the last line, and ends
-- with the status of the script's end
abbrev pub RepliesThenLastLine : Mode → Type 0
RepliesThenLastLine mode =
    (input : List ℕ) (script : Script) (ending : Ending) (told : List ℕ) →
    IsScript mode.form input script ending → AreAllReplies mode script told →
    (out : List ℕ) (status : ℕ) → IsSession mode input out status →
    (out ≡ told ++ last_line ending) × (status ≡ last_status ending)

-- where an input begins with a header and a refused grammar, its session writes the refusal alone
-- and ends with status 2
abbrev pub RefusalIsAll : Mode → Type 0
RefusalIsAll mode =
    (input block line : List ℕ) (at : ℕ) (rest : List ℕ) →
    BeginsWithScript input (with_grammar block []) at rest → IsRefused block line →
    (out : List ℕ) (status : ℕ) → IsSession mode input out status →
    (out ≡ line) × (status ≡ 2)
