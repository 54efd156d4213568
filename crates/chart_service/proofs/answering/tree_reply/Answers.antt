-- The line tells what was found.
use Rattle.std.proofs.Common.{refl, sym, subst}
use Rattle.first_tree.specs.declared.answer.First.{First}
use Rattle.chart_service.specs.declared.reply.Reply.TheVariants.{Line}
use Rattle.chart_service.specs.Answering.{RepliesWith}
use Rattle.chart_service.proofs.answering.tree_reply.Goals as goal

pub returns-in_ok-format-in-Nothing : goal.returns-in_ok-format-in-Nothing
returns-in_ok-format-in-Nothing c =
    let line = c.in_ok-format-in-Nothing.field-0 in
    subst (λ (found : First). RepliesWith found (Line line)) (sym c.in-Nothing.is)
    (line, refl, c.in_ok-format-in-Nothing.ensures.ok)

pub returns-in_ok-format-in-Large : goal.returns-in_ok-format-in-Large
returns-in_ok-format-in-Large c =
    let line = c.in_ok-format-in-Large.field-0 in
    subst (λ (found : First). RepliesWith found (Line line)) (sym c.in-Large.is)
    (line, refl, c.in_ok-format-in-Large.ensures.ok)
