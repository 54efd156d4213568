-- The line that is made tells the answer.
use Rattle.chart_service.specs.Replies.{line_bytes}
use Rattle.chart_service.specs.Replying.{IsAnswerLine}
use Rattle.chart_service.proofs.RepliesLemmas.{says_reply, cuts_reply}
use Rattle.chart_service.proofs.replying.say_answer.Goals as goal

pub returns-clause-ok : goal.returns-clause-ok
returns-clause-ok g c =
    says_reply (IsAnswerLine c.args.answer) line_bytes c.answer_line.result c.answer_line.ensures
    (g.K.Sink.written c.args.sink.now) (g.K.Sink.written c.say.new.sink) c.args.replies.now c.say.new.self
    c.say.result c.say.ensures.ok

pub returns-clause-err : goal.returns-clause-err
returns-clause-err g c =
    cuts_reply (IsAnswerLine c.args.answer) line_bytes c.answer_line.result c.answer_line.ensures
    (g.K.Sink.written c.args.sink.now) (g.K.Sink.written c.say.new.sink) c.args.replies.now c.say.new.self
    c.say.result c.say.ensures.err
