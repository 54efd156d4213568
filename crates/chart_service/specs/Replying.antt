-- Serves the proofs alone: which command was read, the bytes of a reply, and when a tree can be
-- printed as one.
use Rattle.std.specs.Prelude.{◌≡◌, ℕ, List, Result, Ok, Err, string_bytes}
use Rattle.spec_grammar.specs.Grammars.{Grammar}
use Rattle.spec_trees.specs.TreeText.{tree_text}
use Rattle.spec_script.specs.declared.limits.TheConstants.{MAX_BLOCK}
use Rattle.spec_script.specs.Script.{Command, opens, edits, ask}
use Rattle.spec_session.specs.Lines.{as_line}
use Rattle.script_reader.specs.declared.command.Command.{Command as ReadCommand}
use Rattle.script_reader.specs.declared.command.Command.TheVariants.{Open, Edit, Ask, End}
use Rattle.script_reader.specs.Forms.{query_of}
use Rattle.script_reader.specs.Reading.{IsBlock}
use Rattle.text_store.specs.TextStore.{TextValue}
use Rattle.first_tree.specs.Printing.{IsTreeIn}
use Rattle.chart_service.specs.declared.reply.Reply.{Reply}
use Rattle.chart_service.specs.declared.reply.Reply.TheVariants.{Line, Tree}
use Rattle.chart_service.specs.declared.outcomes.Opened.{Opened}
use Rattle.chart_service.specs.declared.outcomes.SessionFault.{SessionFault}
use Rattle.chart_service.specs.declared.outcomes.SessionFault.TheVariants.{Memory, Refused}
use Rattle.chart_service.specs.Sessions.{opened_line, refused_line}

-- the command is this one of a script; the line `end` is none
abbrev pub IsCommand : ReadCommand → Command → Type 0
IsCommand (Open known) command =
    (text : List ℕ) × IsBlock MAX_BLOCK known text × (command ≡ opens text)
IsCommand (Edit at deleted known) command =
    (inserted : List ℕ) × IsBlock MAX_BLOCK known inserted
    × (command ≡ edits at deleted inserted)
IsCommand (Ask query) command = command ≡ ask (query_of query)
IsCommand End command = ⊥

-- the command is some command of a script
abbrev pub CanReply : ReadCommand → Type 0
CanReply command = (meaning : Command) × IsCommand command meaning

-- the line tells the answer of a session; none tells want of memory
abbrev pub IsAnswerLine : Result Opened SessionFault → List ℕ → Type 0
IsAnswerLine (Ok opened) line = line ≡ opened_line opened
IsAnswerLine (Err Memory) line = ⊥
IsAnswerLine (Err (Refused refusal)) line = line ≡ refused_line refusal

-- the bytes of the reply, under the grammar and on the text: those of its line, or of the printed
-- tree as a line
abbrev pub reply_bytes : Grammar → TextValue → Reply → List ℕ
reply_bytes g text (Line line) = string_bytes line
reply_bytes g text (Tree t) = as_line (tree_text g text.bytes text.tokens t)

-- the reply is a line, or a tree of the text
abbrev pub IsPrintable : Grammar → TextValue → Reply → Type 0
IsPrintable g text (Line line) = Unit {0}
IsPrintable g text (Tree t) = IsTreeIn g text t
