-- A line was said, and what is left is written.
use Rattle.chart_service.proofs.RepliesLemmas.{written_out, out_cut}
use Rattle.chart_service.proofs.replies.Replies.write_out.Goals as goal

pub returns-clause-ok : goal.returns-clause-ok
returns-clause-ok g c =
    written_out c.args.line (g.K.Sink.written c.args.sink.now) (g.K.Sink.written c.say.new.sink)
    (g.K.Sink.written c.flush.new.sink) c.args.self.now c.say.new.self c.in_ok-say.ensures.ok
    c.flush.result c.flush.ensures.ok

pub returns-clause-err : goal.returns-clause-err
returns-clause-err g c =
    out_cut c.args.line (g.K.Sink.written c.args.sink.now) (g.K.Sink.written c.say.new.sink)
    (g.K.Sink.written c.flush.new.sink) c.args.self.now c.say.new.self c.in_ok-say.ensures.ok
    c.flush.result c.flush.ensures.err
