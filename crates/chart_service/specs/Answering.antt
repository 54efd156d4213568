-- Serves the proofs alone: what a question names in a text, and what replies to it.
use Rattle.std.specs.Prelude.{◌≡◌, ℕ, List, Bool, true, false, Result, Ok, Err, String, string_bytes}
use Rattle.std.specs.declared.alloc.Global.{Global}
use Rattle.spec_lexing.specs.declared.token.Token.{Token}
use Rattle.spec_grammar.specs.Grammars.{Grammar, IsSymbolOf}
use Rattle.spec_script.specs.Script.{Constituent, Query}
use Rattle.spec_session.specs.Questions.{IsOfSymbol, first_of, end_of, IsWithin}
use Rattle.spec_session.specs.Questions.{IsQuestionRefused, unknown_category_line, outside_line}
use Rattle.spec_session.specs.TreeAnswers.{IsTreeAnswer, none_line, large_tree_line}
use Rattle.spec_session.specs.Answers.{IsAnswer, yes_line, no_line}
use Rattle.text_store.specs.TextStore.{TextValue}
use Rattle.first_tree.specs.declared.answer.First.{First}
use Rattle.first_tree.specs.declared.answer.First.TheVariants.{Tree as Found, Nothing, Large}
use Rattle.chart_service.specs.declared.answering.Refusal.{Refusal}
use Rattle.chart_service.specs.declared.answering.Refusal.TheVariants.{UnknownCategory, SpanOutside}
use Rattle.chart_service.specs.declared.answering.SymbolSpan.{SymbolSpan}
use Rattle.chart_service.specs.declared.reply.Reply.{Reply}
use Rattle.chart_service.specs.declared.reply.Reply.TheVariants.{Line, Tree}
use Rattle.chart_service.specs.Replying.{reply_bytes, IsPrintable}

-- the line that refuses a question on a constituent
abbrev pub refusal_line : Refusal → List ℕ
refusal_line UnknownCategory = unknown_category_line
refusal_line (SpanOutside tokens) = outside_line tokens

-- the constituent is this symbol of the grammar over this span of a text of so many tokens
pub record IsSpanOf (g : Grammar) (size : ℕ) (constituent : Constituent) (asked : SymbolSpan)
    : Type 0 where
  pub own : IsSymbolOf g asked.symbol
  pub is_symbol : IsOfSymbol g constituent asked.symbol
  pub same_first : asked.first ≡ first_of constituent
  pub same_end : asked.end ≡ end_of size constituent
  pub is_within : IsWithin size constituent

-- the constituent is this symbol over this span, or a question on it is refused for this reason
abbrev pub TellsSpan : Grammar → ℕ → Constituent → Result SymbolSpan Refusal → Type 0
TellsSpan g size constituent (Ok asked) = IsSpanOf g size constituent asked
TellsSpan g size constituent (Err refusal) =
    IsQuestionRefused g size constituent (refusal_line refusal)

-- the line that answers whether a constituent is derived
abbrev pub has_line : Bool → List ℕ
has_line true = yes_line
has_line false = no_line

-- what was found of a first tree is told by this reply
abbrev pub RepliesWith : First → Reply → Type 0
RepliesWith (Found t) reply = reply ≡ Tree t
RepliesWith Nothing reply = (line : String Global) × (reply ≡ Line line) × (string_bytes line ≡ none_line)
RepliesWith Large reply =
    (line : String Global) × (reply ≡ Line line) × (string_bytes line ≡ large_tree_line)

-- the text of these bytes and tokens
abbrev pub text_value : List ℕ → List Token → TextValue
text_value text tokens = record { bytes = text; tokens = tokens }

-- the reply answers what the constituent's first tree is, and can be printed
abbrev pub AnswersTree : Grammar → List ℕ → List Token → Constituent → Reply → Type 0
AnswersTree g text tokens constituent reply =
    IsTreeAnswer g text tokens constituent (reply_bytes g (text_value text tokens) reply)
    × IsPrintable g (text_value text tokens) reply

-- the reply answers the query on the text, and can be printed
abbrev pub Answers : Grammar → TextValue → Query → Reply → Type 0
Answers g text query reply =
    IsAnswer g text.bytes text.tokens query (reply_bytes g text reply) × IsPrintable g text reply
