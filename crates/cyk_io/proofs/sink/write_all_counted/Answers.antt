use Rattle.std.proofs.Common.{arith}
use Rattle.cyk_io.proofs.StreamsLemmas.{Grows-rest, within_written}
use Rattle.cyk_io.proofs.sink.write_all_counted.Goals as goal

pub loop-at-preserved : goal.loop-at-preserved
loop-at-preserved g c =
    let at = c.loop-at.at in
    let count = c.in-Ok.count in
    let written = g.K.Sink.written in
    record {
      within = within_written at count c.args.bytes.now c.loop-at.invariant.within c.in-Ok.ensures.bytes.0;
      grown = Grows-rest (written c.args.sink.now) (written c.loop-at.sink) (written c.write.new.self) at count c.args.bytes.now
          c.loop-at.invariant.grown c.in-Ok.ensures.bytes.2;
      later = omega (arith, c.in-Ok.ensures.cause.later);
    }
