-- The session runs, or it has ended.
use Rattle.std.proofs.Common.{ℕ, ◌-◌, ◌^◌, ◌<◌, ◌≤◌, List}
use Rattle.cyk_io.specs.Streams.{coming}
use Rattle.chart_service.specs.Sessions.{version_count}
use Rattle.chart_service.specs.Progress.{Running}
use Rattle.chart_service.proofs.serving.reply_all.Given as goal

abbrev pub invariant-loop-goes_on : goal.invariant-loop-goes_on
invariant-loop-goes_on g l = record {
  running : (input before : List ℕ)
      → Running input before (coming l.fn.ahead (g.S.Source.left l.fn.source)) (l.fn.ahead).offset
      (g.K.Sink.written l.fn.sink) l.fn.replies l.fn.session
      → Running input before (coming l.ahead (g.S.Source.left l.source)) (l.ahead).offset
      (g.K.Sink.written l.sink) l.replies l.session;
  few : version_count l.session ≤ (l.ahead).offset;
  early : (l.ahead).offset < 2 ^ 50;
  read : g.S.Source.faults l.fn.source ≤ g.S.Source.faults l.source;
  write : g.K.Sink.faults l.fn.sink ≤ g.K.Sink.faults l.sink;
}

abbrev pub decreases-loop-goes_on : goal.decreases-loop-goes_on
decreases-loop-goes_on g l = 2 ^ 50 - (l.ahead).offset
