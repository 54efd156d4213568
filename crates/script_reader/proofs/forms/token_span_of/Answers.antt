-- Nothing, or the two ends of a span behind a space.
use Rattle.script_reader.proofs.QuestionLemmas.{no_span_behind, no_span, span_is}
use Rattle.script_reader.proofs.forms.token_span_of.Goals as goal

pub returns-in_err-behind : goal.returns-in_err-behind
returns-in_err-behind c =
    rw c.from_residual.ensures
    (no_span_behind c.args.bytes.now c.if-is_empty.ensures (rw c.as_slice.ensures at c.in_err-behind.ensures))

pub returns-in_err-first : goal.returns-in_err-first
returns-in_err-first c =
    rw c.from_residual-in_err-first.ensures
    (no_span c.args.bytes.now c.as_slice.result.now c.in_ok-behind.field-0.now c.as_slice.ensures
    c.in_ok-behind.ensures c.in_err-first.ensures)

pub returns : goal.returns
returns c =
    span_is c.args.bytes.now c.as_slice.result.now c.in_ok-behind.field-0.now c.as_slice.ensures
    c.in_ok-behind.ensures c.in_ok-first.first c.in_ok-first.end c.in_ok-first.ensures
