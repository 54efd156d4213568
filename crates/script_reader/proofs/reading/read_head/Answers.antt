-- The line of a command is read, and what it tells.
use Rattle.std.proofs.lemmas.Result.{err_from_is_err_and}
use Rattle.cyk_io.specs.Streams.{coming}
use Rattle.script_reader.proofs.ReadingLemmas.{head_taken, head_stops}
use Rattle.script_reader.proofs.reading.read_head.Goals as goal

pub returns-in_err-next_line-clause-err : goal.returns-in_err-next_line-clause-err
returns-in_err-next_line-clause-err g c script tells =
    let p = err_from_is_err_and c.from_residual.result c.from_residual.ensures.1 in
    rw (p.1, p.2) (c.in_err-next_line.ensures.err script)

pub returns-clause-ok : goal.returns-clause-ok
returns-clause-ok g c =
    rw c.ok_or.ensures.value
    (head_taken c.args.ahead.now.offset c.next_line.new.ahead.offset
    (coming c.args.ahead.now (g.S.Source.left c.args.source.now))
    (coming c.next_line.new.ahead (g.S.Source.left c.next_line.new.source)) c.next_line.new.line
    c.in_ok-next_line.ensures.ok c.head_of.result (rw c.as_bytes.ensures.bytes at c.head_of.ensures) _)

pub returns-clause-err : goal.returns-clause-err
returns-clause-err g c script tells =
    rw c.ok_or.ensures.value
    (head_stops c.args.ahead.now.offset c.next_line.new.ahead.offset
    (coming c.args.ahead.now (g.S.Source.left c.args.source.now))
    (coming c.next_line.new.ahead (g.S.Source.left c.next_line.new.source)) c.next_line.new.line
    c.in_ok-next_line.ensures.ok script tells c.offset-at.result c.offset-at.ensures.offset
    c.head_of.result (rw c.as_bytes.ensures.bytes at c.head_of.ensures))
