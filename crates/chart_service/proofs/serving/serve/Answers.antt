-- The status is the number of how the session ended.
use Rattle.chart_service.proofs.serving.serve.Goals as goal

pub returns-clause-ok : goal.returns-clause-ok
returns-clause-ok g c input before left written =
    rw c.number.ensures (c.conclude.ensures.ok input before left written)
