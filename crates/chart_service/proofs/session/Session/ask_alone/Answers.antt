-- The line that was said is written, since nothing was gathered before it.
use Rattle.std.proofs.Common.{[]}
use Rattle.spec_script.specs.Script.{ask}
use Rattle.script_reader.specs.Forms.{query_of}
use Rattle.chart_service.specs.Sessions.{HasReply}
use Rattle.chart_service.proofs.RepliesLemmas.{at_error, writes_reply, cuts_behind}
use Rattle.chart_service.proofs.session.Session.ask_alone.Goals as goal

pub returns-clause-ok : goal.returns-clause-ok
returns-clause-ok g c =
    writes_reply (HasReply c.args.self.now (ask (query_of c.args.query.now)) c.args.self.now)
    (g.K.Sink.written c.args.sink.now) (g.K.Sink.written c.ask_gathered.new.sink)
    (g.K.Sink.written c.flush.new.sink) c.ask_gathered.new.replies
    (rw c.new-replies.ensures at c.in_ok-ask_gathered.ensures.ok) c.flush.result c.flush.ensures.ok

pub returns-clause-err : goal.returns-clause-err
returns-clause-err g c =
    cuts_behind (HasReply c.args.self.now (ask (query_of c.args.query.now)) c.args.self.now)
    (g.K.Sink.written c.args.sink.now) (g.K.Sink.written c.ask_gathered.new.sink)
    (g.K.Sink.written c.flush.new.sink) c.ask_gathered.new.replies
    (rw c.new-replies.ensures at c.in_ok-ask_gathered.ensures.ok) c.flush.result c.flush.ensures.err
