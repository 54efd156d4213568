-- An edit is refused since no text is open, or the edited text that was made is taken.
use Rattle.std.proofs.Common.{refl}
use Rattle.chart_service.proofs.SessionLemmas.{edit_refuses, edit_answers}
use Rattle.chart_service.proofs.session.Session.edit.Goals as goal

pub returns-in-None-clause-ok : goal.returns-in-None-clause-ok
returns-in-None-clause-ok g c inserted given =
    edit_refuses c.self.inside.language c.self.inside.current c.args.self.now c.self.view_is c.args.self.now
    c.args.at c.args.deleted inserted c.in-None.is refl

pub returns-clause-ok : goal.returns-clause-ok
returns-clause-ok g c inserted given =
    edit_answers c.self.inside.language c.self.inside.current c.args.self.now c.self.view_is c.take.new.self
    c.in-Some.version c.in-Some.is c.args.at c.args.deleted inserted c.edited_text-made.result
    (c.edited_text-made.ensures inserted given) c.take.result c.take.ensures.ok
