-- The answer's line replies to the command, and so does what is said of a question.
use Rattle.std.proofs.Common.{◌≡◌, ◌∙◌, sym, ap, subst, OnOk, OnErr}
use Rattle.spec_script.specs.Script.{Command, opens, edits}
use Rattle.chart_service.specs.Sessions.{HasReply, SaysReply, CutsReply}
use Rattle.chart_service.specs.Replying.{IsAnswerLine}
use Rattle.chart_service.proofs.RepliesLemmas.{says_so, cuts_so}
use Rattle.chart_service.proofs.SessionLemmas.{answer_replies, edits_same}
use Rattle.chart_service.proofs.replying.reply_to.Goals as goal

pub open-answer-requires-clause-given : goal.open-answer-requires-clause-given
open-answer-requires-clause-given g c κs within =
    let k = rw c.in-Open.is at c.requires.can_reply.1 in
    (k.0, c.given-count.ensures k.0 k.1)

pub returns-in-Open-clause-ok : goal.returns-in-Open-clause-ok
returns-in-Open-clause-ok g c meaning is =
    let old = c.args.session.now in
    let k = rw c.in-Open.is at is in
    says_so (IsAnswerLine c.open-answer.result) (HasReply old meaning c.open-answer.new.self)
    (answer_replies old c.open-answer.new.self (opens k.0) meaning k.2 c.open-answer.result
    (c.open-answer.ensures.ok k.0 (c.given-count.ensures k.0 k.1)))
    (g.K.Sink.written c.args.sink.now) (g.K.Sink.written c.say_answer.new.sink) c.args.replies.now
    c.say_answer.new.replies c.say_answer.result c.say_answer.ensures.ok

pub returns-in-Open-clause-err : goal.returns-in-Open-clause-err
returns-in-Open-clause-err g c meaning is =
    let old = c.args.session.now in
    let k = rw c.in-Open.is at is in
    cuts_so (IsAnswerLine c.open-answer.result) (HasReply old meaning c.open-answer.new.self)
    (answer_replies old c.open-answer.new.self (opens k.0) meaning k.2 c.open-answer.result
    (c.open-answer.ensures.ok k.0 (c.given-count.ensures k.0 k.1)))
    (g.K.Sink.written c.args.sink.now) (g.K.Sink.written c.say_answer.new.sink) c.args.replies.now
    c.say_answer.new.replies c.say_answer.result c.say_answer.ensures.err

pub edit-answer-requires-clause-given : goal.edit-answer-requires-clause-given
edit-answer-requires-clause-given g c κs within =
    let k = rw c.in-Edit.is at c.requires.can_reply.1 in
    (k.0, c.given-count-in-Edit.ensures k.0 k.1)

pub returns-in-Edit-clause-ok : goal.returns-in-Edit-clause-ok
returns-in-Edit-clause-ok g c meaning is =
    let old = c.args.session.now in
    let k = rw c.in-Edit.is at is in
    says_so (IsAnswerLine c.edit-answer.result) (HasReply old meaning c.edit-answer.new.self)
    (answer_replies old c.edit-answer.new.self (edits c.from.result c.from-in-Edit.result k.0) meaning
    (k.2 ∙ edits_same k.0 c.in-Edit.at c.from.result c.in-Edit.deleted c.from-in-Edit.result c.from.ensures c.from-in-Edit.ensures)
    c.edit-answer.result (c.edit-answer.ensures.ok k.0 (c.given-count-in-Edit.ensures k.0 k.1)))
    (g.K.Sink.written c.args.sink.now) (g.K.Sink.written c.say_answer-in-Edit.new.sink) c.args.replies.now
    c.say_answer-in-Edit.new.replies c.say_answer-in-Edit.result c.say_answer-in-Edit.ensures.ok

pub returns-in-Edit-clause-err : goal.returns-in-Edit-clause-err
returns-in-Edit-clause-err g c meaning is =
    let old = c.args.session.now in
    let k = rw c.in-Edit.is at is in
    cuts_so (IsAnswerLine c.edit-answer.result) (HasReply old meaning c.edit-answer.new.self)
    (answer_replies old c.edit-answer.new.self (edits c.from.result c.from-in-Edit.result k.0) meaning
    (k.2 ∙ edits_same k.0 c.in-Edit.at c.from.result c.in-Edit.deleted c.from-in-Edit.result c.from.ensures c.from-in-Edit.ensures)
    c.edit-answer.result (c.edit-answer.ensures.ok k.0 (c.given-count-in-Edit.ensures k.0 k.1)))
    (g.K.Sink.written c.args.sink.now) (g.K.Sink.written c.say_answer-in-Edit.new.sink) c.args.replies.now
    c.say_answer-in-Edit.new.replies c.say_answer-in-Edit.result c.say_answer-in-Edit.ensures.err

pub returns-in-Ask-clause-ok : goal.returns-in-Ask-clause-ok
returns-in-Ask-clause-ok g c meaning is =
    let old = c.args.session.now in
    let P : Command → Type 0 = λ (m : Command). OnOk c.ask_gathered.result (SaysReply (HasReply old m old)
    (g.K.Sink.written c.args.sink.now) (g.K.Sink.written c.ask_gathered.new.sink) c.args.replies.now
    c.ask_gathered.new.replies) in
    subst P (sym (rw c.in-Ask.is at is)) c.ask_gathered.ensures.ok

pub returns-in-Ask-clause-err : goal.returns-in-Ask-clause-err
returns-in-Ask-clause-err g c meaning is =
    let old = c.args.session.now in
    let P : Command → Type 0 = λ (m : Command). OnErr c.ask_gathered.result (CutsReply (HasReply old m old)
    (g.K.Sink.written c.args.sink.now) (g.K.Sink.written c.ask_gathered.new.sink) c.args.replies.now) in
    subst P (sym (rw c.in-Ask.is at is)) c.ask_gathered.ensures.err
