-- The last line ends the session, or a fault has.
use Rattle.std.proofs.Common.{◌≡◌, inr, refl, sym, subst}
use Rattle.spec_script.specs.Script.{ended, broken}
use Rattle.spec_session.specs.Sessions.{last_line}
use Rattle.chart_service.specs.declared.status.Status.TheVariants.{Ended, BadGrammar, BadScript}
use Rattle.chart_service.specs.Statuses.{EndsAtFault}
use Rattle.chart_service.specs.Languages.{IsRefusal}
use Rattle.chart_service.specs.Progress.{IsCutShort}
use Rattle.chart_service.proofs.ToldLemmas.{finished, fault_status}
use Rattle.chart_service.proofs.serving.conclude.Goals as goal

pub returns-in-Ok-clause-ok : goal.returns-in-Ok-clause-ok
returns-in-Ok-clause-ok g c input before left written =
    finished input before (g.K.Sink.written c.run.new.sink) (g.K.Sink.written c.finish.new.sink)
    c.run.new.replies (λ line. line ≡ last_line ended) 0 (c.in-Ok.ensures.ok input before left written)
    c.end_line.result c.end_line.ensures Ended c.finish.result refl c.finish.ensures.ok

pub returns-in-Err-Refused-clause-ok : goal.returns-in-Err-Refused-clause-ok
returns-in-Err-Refused-clause-ok g c input before left written =
    finished input before (g.K.Sink.written c.run.new.sink)
    (g.K.Sink.written c.finish-in-Err-Refused.new.sink) c.run.new.replies
    (IsRefusal c.in-Err-Refused.fault) 2
    (rw c.in-Err-Refused.field-0-is at (c.in-Err-Refused.ensures.err input before left written))
    c.refusal_line.result c.refusal_line.ensures BadGrammar c.finish-in-Err-Refused.result refl
    c.finish-in-Err-Refused.ensures.ok

pub returns-in-Err-Stopped-Breaks-clause-ok : goal.returns-in-Err-Stopped-Breaks-clause-ok
returns-in-Err-Stopped-Breaks-clause-ok g c input before left written =
    finished input before (g.K.Sink.written c.run.new.sink)
    (g.K.Sink.written c.finish-in-Err-Stopped-Breaks.new.sink) c.run.new.replies
    (λ line. line ≡ last_line (broken c.in-Err-Stopped-Breaks.at)) 3
    (rw (c.in-Err-Stopped-Breaks.field-0-is, c.in-Err-Stopped-Breaks.field-0-0-is)
    at (c.in-Err-Stopped-Breaks.ensures.err input before left written))
    c.broken_line.result c.broken_line.ensures BadScript c.finish-in-Err-Stopped-Breaks.result refl
    c.finish-in-Err-Stopped-Breaks.ensures.ok

pub returns-in-Err-Stopped-Fault-clause-ok : goal.returns-in-Err-Stopped-Fault-clause-ok
returns-in-Err-Stopped-Fault-clause-ok g c input before left written =
    let short : IsCutShort input before (g.K.Sink.written c.run.new.sink) =
    rw (c.in-Err-Stopped-Fault.field-0-is, c.in-Err-Stopped-Fault.field-0-0-is)
    at (c.in-Err-Stopped-Fault.ensures.err input before left written) in
    (short.0, short.1, inr (subst EndsAtFault (sym c.from.ensures) (fault_status c.in-Err-Stopped-Fault.fault), short.2))
