-- The line tells whether the symbol derives the span.
use Rattle.script_reader.specs.Forms.{meant}
use Rattle.spec_session.specs.Answers.{IsHasAnswer}
use Rattle.chart_service.specs.Answering.{has_line}
use Rattle.chart_service.proofs.AnsweringLemmas.{line_is, has_is}
use Rattle.chart_service.proofs.answering.has_answer.Goals as goal

pub returns-in-Ok : goal.returns-in-Ok
returns-in-Ok g c text tokens o =
    line_is (IsHasAnswer c.args.language.now tokens (meant c.args.constituent.now))
    (has_line c.is_derived-is.result)
    (has_is c.args.language.now c.args.chart.now text tokens o (meant c.args.constituent.now) c.len.result
    c.len.ensures c.in-Ok.asked (rw c.grammar.ensures at c.in-Ok.ensures) c.is_derived-is.result
    (c.is_derived-is.ensures text tokens o))
    c.has_line.result c.has_line.ensures
