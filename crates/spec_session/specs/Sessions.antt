-- The session of an input: the reply to its grammar, the replies of the run of its commands, and
-- its last line. It knows a grammar and texts alone.
use Rattle.std.specs.Prelude.{◌≡◌, ℕ, List, [], ◌++◌, codes, decimal}
use Rattle.spec_grammar.specs.Grammars.{Grammar}
use Rattle.spec_script.specs.Script.{Script, nothing, header_alone, with_grammar, Form}
use Rattle.spec_script.specs.Script.{any_order}
use Rattle.spec_script.specs.Script.{Ending, ended, broken, BeginsWithScript, IsScript}
use Rattle.spec_session.specs.Lines.{as_line}
use Rattle.spec_session.specs.GrammarReplies.{IsAccepted, IsRefused, grammar_reply}
use Rattle.spec_session.specs.Steps.{no_texts}
use Rattle.spec_session.specs.Runs.{AreReplies}

-- the last line of a session
abbrev pub last_line : Ending → List ℕ
last_line ended = as_line (codes "end")
last_line (broken at) = codes "script refused " ++ as_line (decimal at)

-- the status of a session that goes to the script's end: 0, or 3 where the script is broken
abbrev pub last_status : Ending → ℕ
last_status ended = 0
last_status (broken at) = 3

-- a mode of the program: the form of its scripts, and which lines follow the reply to a grammar
-- that is accepted
pub record Mode : Type 1 where
  pub form : Form
  pub Follow : Grammar → List ℕ → Type 0

-- the mode `serve`: commands stand in any order, and no line follows the reply to a grammar
abbrev pub serve_mode : Mode
serve_mode = record { form = any_order; Follow = λ g lines. lines ≡ [] }

-- the bytes are all that is replied to the script, whose grammar, if there is one, is accepted: the
-- reply to the grammar, the lines that follow it, and the replies to the commands; nothing replies
-- to the header
abbrev pub AreAllReplies : Mode → Script → List ℕ → Type 0
AreAllReplies mode nothing out = out ≡ []
AreAllReplies mode header_alone out = out ≡ []
AreAllReplies mode (with_grammar block commands) out =
    (g : Grammar) × (lines replies : List ℕ) × IsAccepted block g × mode.Follow g lines
    × AreReplies g no_texts commands replies × (out ≡ grammar_reply g ++ (lines ++ replies))

-- the session of the input in this mode writes these bytes and ends with this status: it ends at a
-- grammar that is refused, with its line alone and status 2; else it goes to the script's end
pub data IsSession (mode : Mode) (input out : List ℕ) (status : ℕ) : Type 0 where
  refused : (block rest : List ℕ) (at : ℕ) → BeginsWithScript input (with_grammar block []) at rest
      → IsRefused block out → status ≡ 2 → IsSession mode input out status
  whole : (script : Script) (ending : Ending) (replies : List ℕ)
      → IsScript mode.form input script ending → AreAllReplies mode script replies
      → out ≡ replies ++ last_line ending → status ≡ last_status ending
      → IsSession mode input out status
