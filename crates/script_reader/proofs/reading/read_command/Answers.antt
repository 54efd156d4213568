-- What stands behind the line of a command is its block, where it has one.
use Rattle.std.proofs.lemmas.Result.{err_from_is_err_and}
use Rattle.cyk_io.specs.Streams.{coming}
use Rattle.script_reader.proofs.ReadingLemmas.{open_stops, edit_stops, edit_taken}
use Rattle.script_reader.proofs.reading.read_command.Goals as goal

pub returns-in_err-block-in-Open-clause-err : goal.returns-in_err-block-in-Open-clause-err
returns-in_err-block-in-Open-clause-err g c at before t script complete =
    let p = err_from_is_err_and c.from_residual.result c.from_residual.ensures.1 in
    rw (p.1, p.2)
    (open_stops at c.args.ahead.now.offset before
    (coming c.args.ahead.now (g.S.Source.left c.args.source.now)) script complete c.in-Open.count
    (rw c.in-Open.is at t) c.in_err-block-in-Open.field-0.0 c.in_err-block-in-Open.ensures.err)

pub returns-in_err-block-in-Edit-clause-err : goal.returns-in_err-block-in-Edit-clause-err
returns-in_err-block-in-Edit-clause-err g c at before t script complete =
    let p = err_from_is_err_and c.from_residual-in_err-block-in-Edit.result
    c.from_residual-in_err-block-in-Edit.ensures.1 in
    rw (p.1, p.2)
    (edit_stops at c.args.ahead.now.offset before
    (coming c.args.ahead.now (g.S.Source.left c.args.source.now)) script complete c.in-Edit.splice
    (rw c.in-Edit.is at t) c.in_err-block-in-Edit.field-0.0 c.in_err-block-in-Edit.ensures.err)

pub returns-in_ok-block-in-Edit-clause-ok : goal.returns-in_ok-block-in-Edit-clause-ok
returns-in_ok-block-in-Edit-clause-ok g c at before t =
    edit_taken at c.args.ahead.now.offset before
    (coming c.args.ahead.now (g.S.Source.left c.args.source.now))
    c.read_block-in-Edit.new.ahead.offset
    (coming c.read_block-in-Edit.new.ahead (g.S.Source.left c.read_block-in-Edit.new.source))
    c.in_ok-block-in-Edit.block c.in-Edit.splice (rw c.in-Edit.is at t) c.in_ok-block-in-Edit.ensures.ok
