use Rattle.std.proofs.Common.{◌-◌, ◌≤◌, length, take}
use Rattle.cyk_io.specs.Streams.{Grows}
use Rattle.cyk_io.proofs.sink.write_all_counted.Given as goal

-- the bytes before the offset are written
abbrev pub invariant-loop-at : goal.invariant-loop-at
invariant-loop-at g l = record {
  within : l.at ≤ length l.bytes;
  grown : Grows (g.K.Sink.written l.fn.sink) (g.K.Sink.written l.sink) (take l.at l.bytes);
  later : g.K.Sink.faults l.fn.sink ≤ g.K.Sink.faults l.sink;
}

abbrev pub decreases-loop-at : goal.decreases-loop-at
decreases-loop-at g l = length l.bytes - l.at
