-- What a caller sees of a session: its grammar and its current version, the reply to each command,
-- and what opening, editing and asking answer.
use Rattle.std.specs.Prelude.{◌≡◌, ℕ, ◌+◌, ◌<◌, ◌⊎◌, List, [], ◌∷◌, ◌++◌, length, Option, Some, None}
use Rattle.std.specs.Prelude.{Result, Ok, Err}
use Rattle.std.specs.Borrow.{Bor}
use Rattle.spec_lexing.specs.declared.token.Token.{Token}
use Rattle.spec_lexing.specs.Tokens.{AreTokensOf, kinds_of}
use Rattle.spec_grammar.specs.Grammars.{Grammar, HasDistinctNames}
use Rattle.spec_script.specs.declared.limits.TheConstants.{MAX_BLOCK}
use Rattle.spec_script.specs.Script.{Command}
use Rattle.spec_session.specs.TextRefusals.{closed_line, open_line, range_line, utf8_line, full_line}
use Rattle.spec_session.specs.Steps.{State, IsClosed, IsReply, version_reply}
use Rattle.cyk_io.specs.Streams.{Grows, GrowsByPrefix}
use Rattle.cyk_io.specs.Gathering.{Passes}
use Rattle.text_store.specs.TextStore.{TextValue}
use Rattle.valiant.specs.Charts.{ChartValue, IsChartOf}
use Rattle.chart_service.specs.declared.outcomes.Opened.{Opened}
use Rattle.chart_service.specs.declared.outcomes.Refusal.{Refusal}
use Rattle.chart_service.specs.declared.outcomes.Refusal.TheVariants.{Closed, Open, Range, Utf8, Full}
use Rattle.chart_service.specs.declared.outcomes.SessionFault.{SessionFault}
use Rattle.chart_service.specs.declared.outcomes.SessionFault.TheVariants.{Memory, Refused}
use Rattle.chart_service.specs.declared.version.Version.{Version}

-- a session: its grammar, and the number and the text of the current version, if a text is open
pub record SessionValue : Type 0 where
  pub language : Grammar
  pub current : Option (ℕ × TextValue)

-- the session under the grammar in which no text was opened yet
abbrev pub new_session : Grammar → SessionValue
new_session g = record { language = g; current = None }

-- how many versions there were where this is the last
abbrev pub count_up_to : Option (ℕ × TextValue) → ℕ
count_up_to None = 0
count_up_to (Some version) = version.0 + 1

-- how many versions there were in the session
abbrev pub version_count : SessionValue → ℕ
version_count session = count_up_to session.current

-- the last text of the state is this version, whose number is the count of the texts before it; or
-- there is no text
abbrev pub IsLastOf : State → Option (ℕ × TextValue) → Type 0
IsLastOf state None = IsClosed state
IsLastOf state (Some version) =
    (older : List (List ℕ)) × (state.texts ≡ older ++ (version.1).bytes ∷ [])
    × (version.0 ≡ length older)

-- the session may be in this state: its current version is the last text of the state
abbrev pub IsIn : SessionValue → State → Type 0
IsIn session state = IsLastOf state session.current

-- the line replies to the command in this state, and the session may be in the state behind it
pub record RepliesTo (g : Grammar) (state : State) (command : Command) (line : List ℕ)
    (session : SessionValue) : Type 0 where
  pub after : State
  pub replies : IsReply g state command line after
  pub is_in : IsIn session after

-- the line replies to the command, which leaves the session so: its grammar is the same, and this is
-- so in each state that it may have been in
pub record HasReply (old : SessionValue) (command : Command) (new : SessionValue) (line : List ℕ)
    : Type 0 where
  pub language : new.language ≡ old.language
  pub replies :
      (state : State) → IsIn old state → RepliesTo old.language state command line new

-- the line that tells a version
abbrev pub opened_line : Opened → List ℕ
opened_line opened = version_reply opened.number opened.tokens

-- the line that tells a refusal
abbrev pub refused_line : Refusal → List ℕ
refused_line Closed = closed_line
refused_line Open = open_line
refused_line (Range len) = range_line len
refused_line (Utf8 at) = utf8_line at
refused_line Full = full_line

-- the text is the next version of the session, and has this number and so many tokens
pub record IsNextOf (old : SessionValue) (text : TextValue) (opened : Opened) (new : SessionValue)
    : Type 0 where
  pub language : new.language ≡ old.language
  pub current : new.current ≡ Some (opened.number, text)
  pub number : opened.number ≡ version_count old
  pub tokens : opened.tokens ≡ length text.tokens

-- some text is
abbrev pub IsNext : SessionValue → Opened → SessionValue → Type 0
IsNext old opened new = (text : TextValue) × IsNextOf old text opened new

-- the answer to the command: the next version, which the reply tells; or the refusal that it tells;
-- or there was no memory
abbrev pub AnswersCommand : SessionValue → Command → Result Opened SessionFault → SessionValue
    → Type 0
AnswersCommand old command (Ok opened) new =
    HasReply old command new (opened_line opened) × IsNext old opened new
AnswersCommand old command (Err Memory) new = Unit {0}
AnswersCommand old command (Err (Refused refusal)) new =
    HasReply old command new (refused_line refusal)

-- the block is passed as its length and its bytes, which may be left out where no text is so long
abbrev pub IsBlockOf : ℕ → Option (Bor (List ℕ)) → List ℕ → Type 0
IsBlockOf count None block = (count ≡ length block) × (MAX_BLOCK < count)
IsBlockOf count (Some bytes) block = (count ≡ length block) × (bytes.now ≡ block)

-- some block is
abbrev pub MayBeGiven : ℕ → Option (Bor (List ℕ)) → Type 0
MayBeGiven count bytes = (block : List ℕ) × IsBlockOf count bytes block

-- a line of which this holds was said: of what was gathered and the line some is written first, and
-- the rest is left
abbrev pub SaysReply : (List ℕ → Type 0) → Option (List ℕ) → Option (List ℕ) → List ℕ → List ℕ
    → Type 0
SaysReply Replies old new gathered left =
    (line : List ℕ) × Replies line × Passes old new gathered line left

-- a line of which this holds was written
abbrev pub WritesReply : (List ℕ → Type 0) → Option (List ℕ) → Option (List ℕ) → Type 0
WritesReply Replies old new = (line : List ℕ) × Replies line × Grows old new line

-- of what was gathered, and of a line of which this holds or nothing behind it, a prefix was written
abbrev pub CutsReply : (List ℕ → Type 0) → Option (List ℕ) → Option (List ℕ) → List ℕ → Type 0
CutsReply Replies old new gathered =
    (line : List ℕ) × (Replies line ⊎ (line ≡ [])) × GrowsByPrefix old new (gathered ++ line)

-- the chart is that of the text's tokens under the grammar
pub record IsOpened (g : Grammar) (chart : ChartValue) (text : List ℕ)
    (tokens : List Token) : Type 0 where
  pub names : HasDistinctNames g
  pub are_tokens : AreTokensOf g.lexicon text tokens
  pub is_chart : IsChartOf g (kinds_of tokens) chart

-- the version is the session's current one, with the chart of its text; or no text is open
abbrev pub TellsCurrent : {C : Type 0} → SessionValue → Option (Bor (Version C)) → Type 0
TellsCurrent session None = session.current ≡ None
TellsCurrent session (Some version) =
    (session.current ≡ Some ((version.now).number, (version.now).text))
    × IsOpened session.language (version.now).chart (version.now).text.bytes
    (version.now).text.tokens
