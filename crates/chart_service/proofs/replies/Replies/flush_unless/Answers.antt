-- What is gathered is written.
use Rattle.chart_service.proofs.RepliesLemmas.{flushed}
use Rattle.chart_service.proofs.replies.Replies.flush_unless.Goals as goal

pub returns-clause-ok : goal.returns-clause-ok
returns-clause-ok g c =
    flushed (g.K.Sink.written c.args.sink.now) (g.K.Sink.written c.flush.new.sink) c.args.self.now
    c.flush.new.self c.flush.ensures.empty c.flush.result c.flush.ensures.ok
