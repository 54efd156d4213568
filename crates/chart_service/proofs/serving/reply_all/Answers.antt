-- The session that runs ends at its line `end`, or early.
use Rattle.chart_service.specs.Progress.{EndsEarly}
use Rattle.chart_service.proofs.ToldLemmas.{err_given}
use Rattle.chart_service.proofs.serving.reply_all.Goals as goal

pub returns-in_err-goes_on-clause-err : goal.returns-in_err-goes_on-clause-err
returns-in_err-goes_on-clause-err g c input before r =
    err_given (EndsEarly input before (g.K.Sink.written c.turn.new.sink) c.turn.new.replies)
    c.in_err-goes_on.field-0.0 c.from_residual.result c.from_residual.ensures.1
    (c.in_err-goes_on.ensures.err input before (c.loop-goes_on.invariant.running input before r))

pub returns-then-not-goes_on-clause-ok : goal.returns-then-not-goes_on-clause-ok
returns-then-not-goes_on-clause-ok g c input before r =
    rw c.if-not-goes_on.true at (c.in_ok-goes_on.ensures.ok input before (c.loop-goes_on.invariant.running input before r))
