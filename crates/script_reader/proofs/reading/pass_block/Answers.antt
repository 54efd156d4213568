-- A block was passed over where its bytes and an LF came.
use Rattle.std.proofs.Common.{arith}
use Rattle.std.proofs.lemmas.Result.{err_from_is_err_and}
use Rattle.cyk_io.specs.Streams.{coming}
use Rattle.script_reader.proofs.LinesAndBlocksLemmas.{passed_block, passed_stops, block_ends}
use Rattle.script_reader.proofs.reading.pass_block.Goals as goal

pub returns-in_err-keep_block-clause-err : goal.returns-in_err-keep_block-clause-err
returns-in_err-keep_block-clause-err g c =
    let p = err_from_is_err_and c.from_residual-in_err-keep_block.result c.from_residual-in_err-keep_block.ensures.1 in
    let skipped = rw (c.in-Skipped.is, c.from.ensures) at c.in_ok-read_exact_n.ensures.ok in
    rw (p.1, p.2)
    (passed_stops c.args.count c.args.ahead.now.offset c.read_exact_n.new.ahead.offset
    (coming c.args.ahead.now (g.S.Source.left c.args.source.now))
    (coming c.read_exact_n.new.ahead (g.S.Source.left c.read_exact_n.new.source))
    c.read_exact_n.new.into.items skipped c.in_err-keep_block.field-0.0 c.in_err-keep_block.ensures.err)

pub returns-in-Ended-clause-err : goal.returns-in-Ended-clause-err
returns-in-Ended-clause-err g c =
    block_ends c.args.count c.args.count 0 c.args.ahead.now.offset c.read_exact_n.new.ahead.offset c.in-Ended.end
    (coming c.args.ahead.now (g.S.Source.left c.args.source.now))
    (coming c.read_exact_n.new.ahead (g.S.Source.left c.read_exact_n.new.source)) c.read_exact_n.new.into.items
    (omega arith) (rw (c.in-Ended.is, c.from.ensures) at c.in_ok-read_exact_n.ensures.ok)

pub returns-clause-ok : goal.returns-clause-ok
returns-clause-ok g c =
    let skipped = rw (c.in-Skipped.is, c.from.ensures) at c.in_ok-read_exact_n.ensures.ok in
    passed_block c.args.count c.args.ahead.now.offset c.read_exact_n.new.ahead.offset
    (coming c.args.ahead.now (g.S.Source.left c.args.source.now))
    (coming c.read_exact_n.new.ahead (g.S.Source.left c.read_exact_n.new.source))
    c.read_exact_n.new.into.items skipped c.keep_block.new.ahead.offset
    (coming c.keep_block.new.ahead (g.S.Source.left c.keep_block.new.source))
    c.in_ok-keep_block.field-0.items c.in_ok-keep_block.ensures.ok
