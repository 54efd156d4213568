-- The bytes of the line passed.
use Rattle.chart_service.proofs.RepliesLemmas.{said}
use Rattle.chart_service.proofs.replies.Replies.say.Goals as goal

pub returns-in-Ok-clause-ok : goal.returns-in-Ok-clause-ok
returns-in-Ok-clause-ok g c =
    said c.args.line c.in-Ok.text c.as_bytes.result.now c.in-Ok.is c.as_bytes.ensures.value
    (g.K.Sink.written c.args.sink.now) (g.K.Sink.written c.add.new.sink) c.args.self.now c.add.new.self
    c.add.result (rw c.self.view_is at c.add.ensures.ok)
