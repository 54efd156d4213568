-- The line of a grammar ends in how many bytes its block has.
use Rattle.std.proofs.lemmas.Result.{err_from_is_err_and}
use Rattle.cyk_io.specs.Streams.{coming}
use Rattle.spec_script.specs.Script.{header_alone}
use Rattle.script_reader.proofs.LinesAndBlocksLemmas.{count_ok, count_err}
use Rattle.script_reader.proofs.reading.read_grammar_line.Goals as goal

pub returns-in_err-next_line-clause-err : goal.returns-in_err-next_line-clause-err
returns-in_err-next_line-clause-err g c =
    let p = err_from_is_err_and c.from_residual.result c.from_residual.ensures.1 in
    rw (p.1, p.2) (c.in_err-next_line.ensures.err header_alone)

pub returns-clause-ok : goal.returns-clause-ok
returns-clause-ok g c =
    rw c.ok_or.ensures.value
    (count_ok c.args.ahead.now.offset c.next_line.new.ahead.offset
    (coming c.args.ahead.now (g.S.Source.left c.args.source.now))
    (coming c.next_line.new.ahead (g.S.Source.left c.next_line.new.source)) c.next_line.new.line
    c.in_ok-next_line.ensures.ok c.count_behind.result
    (rw (c.as_bytes.ensures.bytes, c.as_slice.ensures) at c.count_behind.ensures) _)

pub returns-clause-err : goal.returns-clause-err
returns-clause-err g c =
    rw c.ok_or.ensures.value
    (count_err c.args.ahead.now.offset c.next_line.new.ahead.offset
    (coming c.args.ahead.now (g.S.Source.left c.args.source.now))
    (coming c.next_line.new.ahead (g.S.Source.left c.next_line.new.source)) c.next_line.new.line
    c.in_ok-next_line.ensures.ok c.offset-at.result c.offset-at.ensures.offset c.count_behind.result
    (rw (c.as_bytes.ensures.bytes, c.as_slice.ensures) at c.count_behind.ensures))
