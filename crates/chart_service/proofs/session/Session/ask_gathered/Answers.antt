-- The reply that is made answers the question, or no text is open.
use Rattle.std.proofs.Common.{string_bytes, ◌≡◌}
use Rattle.spec_script.specs.Script.{ask}
use Rattle.spec_session.specs.TextRefusals.{closed_line}
use Rattle.script_reader.specs.Forms.{query_of}
use Rattle.chart_service.specs.Sessions.{HasReply}
use Rattle.chart_service.specs.Replies.{line_bytes}
use Rattle.chart_service.specs.Replying.{reply_bytes, IsPrintable}
use Rattle.chart_service.specs.Answering.{Answers}
use Rattle.chart_service.proofs.RepliesLemmas.{says_reply, cuts_reply}
use Rattle.chart_service.proofs.SessionLemmas.{if_ok, question_answers, closed_replies}
use Rattle.chart_service.proofs.session.Session.ask_gathered.Goals as goal

pub answer_to-reply-requires-clause-opened : goal.answer_to-reply-requires-clause-opened
answer_to-reply-requires-clause-opened g c κs within = rw c.in-Some.is at c.self.invariant.1

pub say_reply-requires : goal.say_reply-requires
say_reply-requires g c =
    let language = c.self.inside.language in
    let text = c.in-Some.version.text in
    rw c.grammar.ensures
    (record {
      fits = if_ok (Answers language text (query_of c.args.query.now)) (IsPrintable language text) (λ r a. a.1)
          c.answer_to-reply.result c.answer_to-reply.ensures;
    })

pub returns-in-Some-clause-ok : goal.returns-in-Some-clause-ok
returns-in-Some-clause-ok g c =
    let query = query_of c.args.query.now in
    says_reply (HasReply c.args.self.now (ask query) c.args.self.now)
    (reply_bytes c.self.inside.language c.in-Some.version.text) c.answer_to-reply.result
    (question_answers c.self.inside.language c.self.inside.current c.args.self.now c.self.view_is query
    c.in-Some.version c.in-Some.is c.self.invariant.1 c.answer_to-reply.result c.answer_to-reply.ensures)
    (g.K.Sink.written c.args.sink.now) (g.K.Sink.written c.say_reply.new.sink) c.args.replies.now
    c.say_reply.new.self c.say_reply.result (rw c.grammar.ensures at c.say_reply.ensures.ok)

pub returns-in-Some-clause-err : goal.returns-in-Some-clause-err
returns-in-Some-clause-err g c =
    let query = query_of c.args.query.now in
    cuts_reply (HasReply c.args.self.now (ask query) c.args.self.now)
    (reply_bytes c.self.inside.language c.in-Some.version.text) c.answer_to-reply.result
    (question_answers c.self.inside.language c.self.inside.current c.args.self.now c.self.view_is query
    c.in-Some.version c.in-Some.is c.self.invariant.1 c.answer_to-reply.result c.answer_to-reply.ensures)
    (g.K.Sink.written c.args.sink.now) (g.K.Sink.written c.say_reply.new.sink) c.args.replies.now
    c.say_reply.new.self c.say_reply.result (rw c.grammar.ensures at c.say_reply.ensures.err)

pub returns-in-None-clause-ok : goal.returns-in-None-clause-ok
returns-in-None-clause-ok g c =
    let query = query_of c.args.query.now in
    says_reply (HasReply c.args.self.now (ask query) c.args.self.now) line_bytes c.format.result
    (closed_replies c.self.inside.language c.self.inside.current c.args.self.now c.self.view_is query
    c.in-None.is c.format.result c.format.ensures.ok)
    (g.K.Sink.written c.args.sink.now) (g.K.Sink.written c.say.new.sink) c.args.replies.now c.say.new.self
    c.say.result c.say.ensures.ok

pub returns-in-None-clause-err : goal.returns-in-None-clause-err
returns-in-None-clause-err g c =
    let query = query_of c.args.query.now in
    cuts_reply (HasReply c.args.self.now (ask query) c.args.self.now) line_bytes c.format.result
    (closed_replies c.self.inside.language c.self.inside.current c.args.self.now c.self.view_is query
    c.in-None.is c.format.result c.format.ensures.ok)
    (g.K.Sink.written c.args.sink.now) (g.K.Sink.written c.say.new.sink) c.args.replies.now c.say.new.self
    c.say.result c.say.ensures.err
