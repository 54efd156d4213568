-- The generated run: the session of a text that a seed draws and of edits of it, under one grammar,
-- and the one line that sums it up.
use Rattle.std.specs.Prelude.{◌≡◌, ℕ, ◌+◌, ◌-◌, List, [], ◌∷◌, ◌++◌, length, get_or, cond, zero, suc}
use Rattle.std.specs.Prelude.{codes, bytes_eq}
use Rattle.generator.specs.declared.editing.TheConstants.{EDITS}
use Rattle.generator.specs.declared.editing.Edit.{Edit}
use Rattle.generator.specs.Generated.{grammar_file, program_name, statement_name, statement_count}
use Rattle.generator.specs.Generated.{text_of, edit_of, span_of, statement_behind}
use Rattle.spec_lexing.specs.declared.token.Token.{Token}
use Rattle.spec_lexing.specs.Tokens.{AreTokensOf}
use Rattle.spec_grammar.specs.Grammars.{Grammar}
use Rattle.spec_script.specs.declared.question.Constituent.TheVariants.{NamedWhole, NamedSpan}
use Rattle.spec_script.specs.Script.{Constituent, Command, has, tree, opens, edits, ask}
use Rattle.spec_session.specs.Lines.{as_line, with_number}
use Rattle.spec_session.specs.GrammarReplies.{IsAccepted}
use Rattle.spec_session.specs.Answers.{yes_line, no_line}
use Rattle.spec_session.specs.Steps.{State, Step, no_texts, AnswersQuery}
use Rattle.spec_session.specs.Runs.{state_after, IsRunOf}

-- the whole text as a program
abbrev pub whole_program : Constituent
whole_program = NamedWhole program_name

-- the tokens of this statement, without its semicolon, as a statement
abbrev pub as_statement : ℕ → Constituent
as_statement statement =
    NamedSpan statement_name (span_of statement).first (span_of statement).end

-- the question whether the constituent is derived
abbrev pub asks : Constituent → Command
asks constituent = ask (has constituent)

-- the edit as a command: one byte goes, and one comes
abbrev pub edit_command : Edit → Command
edit_command edit = edits edit.at 1 (edit.byte ∷ [])

-- what is done for an edit of so many statements: it is made, and then asked for are the whole text,
-- the statement that was edited, and the one behind that
abbrev pub turn : ℕ → Edit → List Command
turn statements edit =
    edit_command edit ∷ asks whole_program ∷ asks (as_statement edit.statement)
    ∷ asks (as_statement (statement_behind edit.statement statements)) ∷ []

-- what is done for the first so many edits, in order
unfoldable pub turns : ℕ → ℕ → ℕ → List Command
turns seed statements zero = []
turns seed statements (suc count) =
    turns seed statements count ++ turn statements (edit_of seed statements count)

-- the commands of the run of a seed with so many statements: its text is opened, the whole text is
-- asked for, and what is done for each edit follows
abbrev pub run_commands : ℕ → ℕ → List Command
run_commands seed statements =
    opens (text_of seed statements) ∷ asks whole_program ∷ turns seed statements EDITS

-- the number of a session's last version, from 0
abbrev pub last_version : State → ℕ
last_version state = length state.texts - 1

-- a session's last text
abbrev pub last_text : State → List ℕ
last_text state = get_or state.texts (last_version state) []

-- how many steps reply with this line
abbrev pub replies_with : List ℕ → List Step → ℕ
replies_with line [] = 0
replies_with line (step ∷ steps) =
    cond (bytes_eq step.line line) 1 0 + replies_with line steps

-- the run of a seed with so many statements: its commands are run under its grammar, and in the
-- state behind them, whose last text has these tokens, the first tree of the whole program is asked
-- for, and the reply is a line of these bytes
pub record GeneratedRun (seed statements : ℕ) : Type 0 where
  pub g : Grammar
  pub steps : List Step
  pub last : State
  pub tokens : List Token
  pub printed : List ℕ
  pub accepted : IsAccepted grammar_file g
  pub run : IsRunOf g no_texts (run_commands seed statements) steps
  pub is_last : last ≡ state_after no_texts steps
  pub are_tokens : AreTokensOf g.lexicon (last_text last) tokens
  pub answered : AnswersQuery g last (tree whole_program) (as_line printed)

-- what a run comes to
pub record Summary : Type 0 where
  -- its seed, and how many statements the text of that has
  pub seed : ℕ
  pub statements : ℕ
  -- how many tokens and bytes the last text has, and the last version's number
  pub tokens : ℕ
  pub bytes : ℕ
  pub versions : ℕ
  -- how many replies are yes, and how many no
  pub yes_replies : ℕ
  pub no_replies : ℕ
  -- how many bytes are printed of the tree
  pub tree_bytes : ℕ

-- what this run comes to
abbrev pub summary_of : (seed statements : ℕ) → GeneratedRun seed statements → Summary
summary_of seed statements run = record {
  seed = seed;
  statements = statements;
  tokens = length run.tokens;
  bytes = length (last_text run.last);
  versions = last_version run.last;
  yes_replies = replies_with yes_line run.steps;
  no_replies = replies_with no_line run.steps;
  tree_bytes = length run.printed;
}

-- the line that tells it
abbrev pub summary_line : Summary → List ℕ
summary_line s =
    with_number (codes "gen seed") s.seed
    ++ (with_number (codes " statements") s.statements
    ++ (with_number (codes " tokens") s.tokens
    ++ (with_number (codes " bytes") s.bytes
    ++ (with_number (codes " versions") s.versions
    ++ (with_number (codes " yes") s.yes_replies
    ++ (with_number (codes " no") s.no_replies
    ++ as_line (with_number (codes " tree") s.tree_bytes)))))))

-- the line tells what a run of this seed with so many tokens comes to
abbrev pub IsGenerated : ℕ → ℕ → List ℕ → Type 0
IsGenerated seed tokens line =
    (run : GeneratedRun seed (statement_count tokens))
    × (line ≡ summary_line (summary_of seed (statement_count tokens) run))

-- any two runs of a seed with so many tokens come to the same line
abbrev pub OneGeneratedLine : Type 0
OneGeneratedLine =
    (seed tokens : ℕ) (line other : List ℕ) →
    IsGenerated seed tokens line → IsGenerated seed tokens other → line ≡ other

-- the run of seed 0 with two statements, and a line
pub record SmallRun : Type 0 where
  -- a text, a question, and four commands for each edit
  pub commands : length (run_commands 0 2) ≡ 402
  -- the first edit puts a semicolon into the second statement, behind which the first one comes
  pub even : turn 2 (edit_of 0 2 0) ≡ edits 15 1 (codes ";") ∷ asks whole_program
      ∷ ask (has (NamedSpan (codes "Stm") 8 15)) ∷ ask (has (NamedSpan (codes "Stm") 0 7)) ∷ []
  -- the second puts a plus there
  pub odd : turn 2 (edit_of 0 2 1) ≡ edits 15 1 (codes "+") ∷ asks whole_program
      ∷ ask (has (NamedSpan (codes "Stm") 8 15)) ∷ ask (has (NamedSpan (codes "Stm") 0 7)) ∷ []
  -- the whole text is asked for by its category's name
  pub whole : asks whole_program ≡ ask (has (NamedWhole (codes "Prog")))
  -- the line of eight numbers
  pub told : summary_line (record {
    seed = 0;
    statements = 2;
    tokens = 16;
    bytes = 20;
    versions = 100;
    yes_replies = 201;
    no_replies = 100;
    tree_bytes = 115;
  }) ≡ as_line
      (codes "gen seed 0 statements 2 tokens 16 bytes 20 versions 100 yes 201 no 100 tree 115")
