-- A text is refused since one is open, or the text that was made is taken.
use Rattle.std.proofs.Common.{◌∙◌, sym, refl}
use Rattle.chart_service.proofs.SessionLemmas.{open_refuses, open_answers}
use Rattle.chart_service.proofs.session.Session.open.Goals as goal

pub returns-then-is_some-clause-ok : goal.returns-then-is_some-clause-ok
returns-then-is_some-clause-ok g c text given =
    open_refuses c.self.inside.language c.self.inside.current c.args.self.now c.self.view_is c.args.self.now text
    (sym c.is_some.ensures ∙ c.if-is_some.true) refl

pub returns-clause-ok : goal.returns-clause-ok
returns-clause-ok g c text given =
    open_answers c.self.inside.language c.self.inside.current c.args.self.now c.self.view_is c.take.new.self text
    (sym c.is_some.ensures ∙ c.if-is_some.false) c.opened_text-made.result
    (c.opened_text-made.ensures text given) c.take.result c.take.ensures.ok
