-- A line that begins with `tokens` asks what the rest names.
use Rattle.script_reader.proofs.QuestionLemmas.{no_tokens, tokens_read}
use Rattle.script_reader.proofs.forms.tokens_question.Goals as goal

pub returns-in_err-behind : goal.returns-in_err-behind
returns-in_err-behind c =
    rw c.from_residual.ensures
    (no_tokens c.args.line.now c.as_slice.result.now c.as_slice.ensures c.in_err-behind.ensures)

pub returns : goal.returns
returns c =
    tokens_read c.args.line.now c.as_slice.result.now c.as_slice.ensures c.in_ok-behind.field-0.now
    c.in_ok-behind.ensures c.token_span_of.result c.token_span_of.ensures
