-- Serves the proofs alone: how far a session has come, and how it ended.
use Rattle.std.specs.Prelude.{◌≡◌, ℕ, ◌<◌, ◌^◌, ◌⊎◌, List, [], ◌++◌, Option, Some, None, Bool}
use Rattle.std.specs.Prelude.{true, false, Result, IsErrOf}
use Rattle.spec_grammar.specs.Grammars.{Grammar}
use Rattle.spec_script.specs.Script.{with_grammar, BeginsWithScript, ended, broken}
use Rattle.spec_session.specs.GrammarReplies.{IsAccepted, grammar_reply}
use Rattle.spec_session.specs.Steps.{no_texts, Step}
use Rattle.spec_session.specs.Runs.{IsRun, commands_of, replies_of, state_after}
use Rattle.spec_session.specs.Sessions.{serve_mode, IsSession, last_line}
use Rattle.cyk_io.specs.declared.fault.IoFault.TheVariants.{Read, Write}
use Rattle.script_reader.specs.declared.stop.Stop.TheVariants.{Breaks, Fault}
use Rattle.chart_service.specs.declared.ending.EarlyEnd.{EarlyEnd}
use Rattle.chart_service.specs.declared.ending.EarlyEnd.TheVariants.{Refused, Stopped}
use Rattle.chart_service.specs.declared.status.Status.{Status}
use Rattle.chart_service.specs.Statuses.{number_of, EndsAtFault}
use Rattle.chart_service.specs.Serving.{IsPrefixOfSession}
use Rattle.chart_service.specs.Languages.{IsRefusal}
use Rattle.chart_service.specs.Sessions.{SessionValue, IsIn}

-- what was told is what was written behind `before`, and then what is gathered
abbrev pub IsToldBehind : List ℕ → Option (List ℕ) → List ℕ → List ℕ → Type 0
IsToldBehind before now gathered told =
    (out : List ℕ) × (now ≡ Some (before ++ out)) × (told ≡ out ++ gathered)

-- the script so far is a grammar that was accepted and the commands of a run, what comes stands
-- behind it, the session is in the state that they left, and the replies to them were told
pub record Running (input before : List ℕ) (coming : Option (List ℕ)) (at : ℕ)
    (now : Option (List ℕ)) (gathered : List ℕ) (session : SessionValue) : Type 0 where
  pub block : List ℕ
  pub steps : List Step
  pub rest : List ℕ
  pub comes : coming ≡ Some rest
  pub begins : BeginsWithScript input (with_grammar block (commands_of steps)) at rest
  pub accepted : IsAccepted block session.language
  pub is_run : IsRun session.language no_texts steps
  pub is_in : IsIn session (state_after no_texts steps)
  pub is_told : IsToldBehind before now gathered
      (grammar_reply session.language ++ replies_of steps)

-- of the session a prefix was written
abbrev pub IsCutShort : List ℕ → List ℕ → Option (List ℕ) → Type 0
IsCutShort input before now =
    (out : List ℕ) × (now ≡ Some (before ++ out)) × IsPrefixOfSession input out

-- all of the session was told but its last line, which is one of these, and its status is this
pub record LacksLast (input before : List ℕ) (now : Option (List ℕ)) (gathered : List ℕ)
    (IsLast : List ℕ → Type 0) (status : ℕ) : Type 0 where
  pub told : List ℕ
  pub is_told : IsToldBehind before now gathered told
  pub is_prefix : IsPrefixOfSession input told
  pub last : (line : List ℕ) → IsLast line → IsSession serve_mode input (told ++ line) status

-- the line `end` was read
abbrev pub HasEnded : List ℕ → List ℕ → Option (List ℕ) → List ℕ → Type 0
HasEnded input before now gathered =
    LacksLast input before now gathered (λ line. line ≡ last_line ended) 0

-- the session ends early, for this reason
abbrev pub EndsEarly : List ℕ → List ℕ → Option (List ℕ) → List ℕ → EarlyEnd → Type 0
EndsEarly input before now gathered (Refused fault) =
    LacksLast input before now gathered (IsRefusal fault) 2
EndsEarly input before now gathered (Stopped (Breaks at)) =
    LacksLast input before now gathered (λ line. line ≡ last_line (broken at)) 3
EndsEarly input before now gathered (Stopped (Fault fault)) = IsCutShort input before now

-- the session was ended with this status: all of it was written, or a fault left a prefix
abbrev pub Ends : List ℕ → List ℕ → Option (List ℕ) → Status → Type 0
Ends input before now status =
    (out : List ℕ) × (now ≡ Some (before ++ out))
    × (IsSession serve_mode input out (number_of status)
    ⊎ (EndsAtFault status × IsPrefixOfSession input out))

-- the session goes on, or the line `end` was read
abbrev pub GoesOnOrHasEnded : List ℕ → List ℕ → Option (List ℕ) → ℕ → Option (List ℕ) → List ℕ
    → SessionValue → Bool → Type 0
GoesOnOrHasEnded input before coming at now gathered session true =
    Running input before coming at now gathered session
GoesOnOrHasEnded input before coming at now gathered session false =
    HasEnded input before now gathered

-- the header and a grammar were read, which was accepted as this one
pub record HasAccepted (input : List ℕ) (coming : Option (List ℕ)) (at : ℕ) (g : Grammar)
    : Type 0 where
  pub block : List ℕ
  pub accepted : IsAccepted block g
  pub rest : List ℕ
  pub comes : coming ≡ Some rest
  pub begins : BeginsWithScript input (with_grammar block []) at rest

-- no text was opened in the session yet
abbrev pub IsFresh : SessionValue → Type 0
IsFresh session = session.current ≡ None

-- the session ends early since a read failed
abbrev pub IsReadFault : {X : Type 0} → Result X EarlyEnd → Type 0
IsReadFault result = IsErrOf result (Stopped (Fault Read))

-- the session ends early since a write failed
abbrev pub IsWriteFault : {X : Type 0} → Result X EarlyEnd → Type 0
IsWriteFault result = IsErrOf result (Stopped (Fault Write))

-- the offset has grown, and is no larger than any script's
abbrev pub GoesForward : ℕ → ℕ → Type 0
GoesForward old new = (old < new) × (new < 2 ^ 50)
