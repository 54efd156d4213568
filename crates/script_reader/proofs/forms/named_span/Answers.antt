-- Behind the name stand the two ends of a span, or the bytes name nothing.
use Rattle.script_reader.proofs.QuestionLemmas.{no_named_span}
use Rattle.script_reader.proofs.forms.named_span.Goals as goal

pub returns-in_err-first : goal.returns-in_err-first
returns-in_err-first c =
    rw c.from_residual.ensures (no_named_span c.args.name.now c.requires c.args.span.now c.in_err-first.ensures)
