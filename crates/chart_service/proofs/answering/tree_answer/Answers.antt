-- The reply tells what the first tree of the symbol over the span is.
use Rattle.script_reader.specs.Forms.{meant}
use Rattle.chart_service.specs.Answering.{RepliesWith, AnswersTree}
use Rattle.chart_service.proofs.AnsweringLemmas.{tree_is}
use Rattle.chart_service.proofs.SessionLemmas.{if_ok}
use Rattle.chart_service.proofs.answering.tree_answer.Goals as goal

pub returns-in_ok-found-in-Ok : goal.returns-in_ok-found-in-Ok
returns-in_ok-found-in-Ok g c text tokens o =
    if_ok (RepliesWith c.in_ok-found-in-Ok.found)
    (AnswersTree c.args.language.now text tokens (meant c.args.constituent.now))
    (tree_is c.args.language.now c.args.chart.now text tokens o (meant c.args.constituent.now) c.len.result
    c.len.ensures c.in-Ok.asked (rw c.grammar.ensures at c.in-Ok.ensures) c.in_ok-found-in-Ok.found
    (rw c.grammar-in-Ok.ensures at c.in_ok-found-in-Ok.ensures))
    c.tree_reply.result c.tree_reply.ensures
