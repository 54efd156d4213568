-- Nothing is read ahead before the session, so what comes is the source's bytes.
use Rattle.std.proofs.Common.{refl}
use Rattle.chart_service.proofs.serving.run.Goals as goal

pub returns-clause-err : goal.returns-clause-err
returns-clause-err g c input before left written =
    c.reply_all.ensures.err input before
    (c.in_ok-session.ensures.ok input before (rw (left, c.new-ahead.ensures.held) refl) written)
