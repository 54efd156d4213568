-- Serves the proofs alone: what a session keeps, what making a text for a command answers, and what a
-- session that takes it answers.
use Rattle.std.specs.Prelude.{◌≡◌, ℕ, List, Option, Some, None, Result, Ok, Err}
use Rattle.spec_lexing.specs.Lexicon.{Lexicon}
use Rattle.spec_lexing.specs.Tokens.{kinds_of}
use Rattle.spec_grammar.specs.Grammars.{Grammar}
use Rattle.spec_session.specs.TextRefusals.{IsFitText, HasTokens, IsTextRefused, edited, HasRoom}
use Rattle.spec_session.specs.TextRefusals.{KeepsScalars, IsEditRefused}
use Rattle.text_store.specs.TextStore.{TextValue}
use Rattle.text_store.specs.declared.fault.EditFault.{EditFault}
use Rattle.text_store.specs.declared.fault.EditFault.TheVariants as store
use Rattle.valiant.specs.Charts.{IsChartOf}
use Rattle.chart_service.specs.declared.outcomes.Opened.{Opened}
use Rattle.chart_service.specs.declared.outcomes.Refusal.TheVariants.{Range, Utf8, Full}
use Rattle.chart_service.specs.declared.outcomes.SessionFault.{SessionFault}
use Rattle.chart_service.specs.declared.outcomes.SessionFault.TheVariants.{Memory, Refused}
use Rattle.chart_service.specs.declared.version.Version.{Version}
use Rattle.chart_service.specs.Sessions.{SessionValue, refused_line, IsNextOf, IsOpened}

-- the number and the text of the version that is kept, if one is
abbrev pub version_seen : {C : Type 0} → Option (Version C) → Option (ℕ × TextValue)
version_seen None = None
version_seen (Some version) = Some (version.number, version.text)

-- the session under the grammar that keeps this version
abbrev pub session_of : {C : Type 0} → Grammar → Option (Version C) → SessionValue
session_of g current = record { language = g; current = version_seen current }

-- the version that is kept, if one is, has the chart of its text
abbrev pub KeepsVersion : {C : Type 0} → Grammar → Option (Version C) → Type 0
KeepsVersion g None = Unit {0}
KeepsVersion g (Some version) =
    IsOpened g version.chart version.text.bytes version.text.tokens

-- a fault of a text, as one of the session, where both kinds of too much are the same
abbrev pub session_fault : EditFault → SessionFault
session_fault store.Memory = Memory
session_fault (store.Range len) = Refused (Range len)
session_fault (store.FullText count) = Refused Full
session_fault (store.NotUtf8 at) = Refused (Utf8 at)
session_fault store.FullTokens = Refused Full

-- the fault is want of memory, or its line is such a refusal
abbrev pub TellsRefusal : (List ℕ → Type 0) → SessionFault → Type 0
TellsRefusal IsRefused Memory = Unit {0}
TellsRefusal IsRefused (Refused refusal) = IsRefused (refused_line refusal)

-- a text of these bytes is made with its tokens, where it may be; or it is refused with the line of
-- the fault
abbrev pub MakesText : Lexicon → List ℕ → Type 0 → (List ℕ → Type 0) → Result TextValue EditFault
    → Type 0
MakesText lexicon bytes MayBe IsRefused (Ok text) =
    MayBe × (text.bytes ≡ bytes) × HasTokens lexicon bytes text.tokens
MakesText lexicon bytes MayBe IsRefused (Err fault) = TellsRefusal IsRefused (session_fault fault)

-- a text of these bytes is opened
abbrev pub MakesOpened : Lexicon → List ℕ → Result TextValue EditFault → Type 0
MakesOpened lexicon bytes =
    MakesText lexicon bytes (IsFitText bytes) (IsTextRefused lexicon bytes)

-- a text is edited
abbrev pub MakesEdited : Lexicon → List ℕ → ℕ → ℕ → List ℕ → Result TextValue EditFault → Type 0
MakesEdited lexicon text at deleted inserted =
    MakesText lexicon (edited text at deleted inserted)
    (HasRoom text at deleted inserted × KeepsScalars text at deleted inserted)
    (IsEditRefused text at deleted inserted lexicon)

-- the version is of this number and text, with the chart of its tokens
pub record IsVersionWith {C : Type 0} (g : Grammar) (number : ℕ) (text : TextValue)
    (version : Version C) : Type 0 where
  pub same_number : version.number ≡ number
  pub same_text : version.text ≡ text
  pub is_chart : IsChartOf g (kinds_of text.tokens) version.chart

-- the text that was made is the next version, unless there was no memory; or the fault is answered,
-- and the session is as it was
abbrev pub HasTaken : SessionValue → Result TextValue EditFault → Result Opened SessionFault
    → SessionValue → Type 0
HasTaken old (Ok text) (Ok opened) new = IsNextOf old text opened new
HasTaken old (Ok text) (Err fault) new = fault ≡ Memory
HasTaken old (Err fault) answer new = (answer ≡ Err (session_fault fault)) × (new ≡ old)
