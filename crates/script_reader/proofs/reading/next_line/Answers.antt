-- What is no line breaks the script.
use Rattle.std.proofs.Common.{arith}
use Rattle.cyk_io.specs.Streams.{coming}
use Rattle.script_reader.proofs.LinesAndBlocksLemmas.{late_stops, long_line_stops, ended_stops}
use Rattle.script_reader.proofs.reading.next_line.Goals as goal

pub returns-then-at-ge-MAX_OFFSET-clause-err : goal.returns-then-at-ge-MAX_OFFSET-clause-err
returns-then-at-ge-MAX_OFFSET-clause-err g c script =
    late_stops script c.args.ahead.now.offset c.args.ahead.now.offset c.offset-at.result
    (coming c.args.ahead.now (g.S.Source.left c.args.source.now))
    (coming c.args.ahead.now (g.S.Source.left c.args.source.now))
    c.offset-at.ensures.offset (omega (arith, c.if-at-ge-MAX_OFFSET.true))

pub returns-in-LongLine-clause-err : goal.returns-in-LongLine-clause-err
returns-in-LongLine-clause-err g c script =
    long_line_stops script c.args.ahead.now.offset c.read_line.new.ahead.offset c.offset-at.result
    (coming c.args.ahead.now (g.S.Source.left c.args.source.now))
    (coming c.read_line.new.ahead (g.S.Source.left c.read_line.new.source)) c.read_line.new.line
    c.in-LongLine.field-0 c.offset-at.ensures.offset (rw c.in-LongLine.is at c.in_ok-read_line.ensures.ok)

pub returns-in-Ended-clause-err : goal.returns-in-Ended-clause-err
returns-in-Ended-clause-err g c script =
    ended_stops script c.args.ahead.now.offset c.read_line.new.ahead.offset c.in-Ended.end
    (coming c.args.ahead.now (g.S.Source.left c.args.source.now))
    (coming c.read_line.new.ahead (g.S.Source.left c.read_line.new.source)) c.read_line.new.line
    (omega (arith, c.if-at-ge-MAX_OFFSET.false, c.offset-at.ensures.offset))
    (rw c.in-Ended.is at c.in_ok-read_line.ensures.ok)
