-- The block is what was read before its LF.
use Rattle.std.proofs.Common.{◌+◌, ◌≤◌, arith}
use Rattle.cyk_io.specs.Streams.{coming}
use Rattle.script_reader.proofs.LinesAndBlocksLemmas.{block_ok, block_err, block_ends}
use Rattle.script_reader.proofs.reading.keep_block.Goals as goal

pub returns-in-Kept-clause-ok : goal.returns-in-Kept-clause-ok
returns-in-Kept-clause-ok g c =
    rw c.ok_or.ensures.value
    (block_ok c.args.count c.args.ahead.now.offset c.read_exact_n.new.ahead.offset
    (coming c.args.ahead.now (g.S.Source.left c.args.source.now))
    (coming c.read_exact_n.new.ahead (g.S.Source.left c.read_exact_n.new.source))
    c.read_exact_n.new.into.items
    (rw (c.in-Kept.is, c.from-whole.ensures) at c.in_ok-read_exact_n.ensures.ok)
    c.without_lf.result c.without_lf.ensures _)

pub returns-in-Kept-clause-err : goal.returns-in-Kept-clause-err
returns-in-Kept-clause-err g c =
    rw c.ok_or.ensures.value
    (block_err c.args.count c.args.ahead.now.offset c.read_exact_n.new.ahead.offset
    (coming c.args.ahead.now (g.S.Source.left c.args.source.now))
    (coming c.read_exact_n.new.ahead (g.S.Source.left c.read_exact_n.new.source))
    c.read_exact_n.new.into.items
    (rw (c.in-Kept.is, c.from-whole.ensures) at c.in_ok-read_exact_n.ensures.ok)
    c.without_lf.result c.without_lf.ensures (c.offset.result + c.from.result)
    (omega (arith, c.offset.ensures.offset, c.from.ensures)))

pub returns-in-Ended-clause-err : goal.returns-in-Ended-clause-err
returns-in-Ended-clause-err g c =
    block_ends c.args.count (c.args.count + 1) (c.args.count + 1) c.args.ahead.now.offset c.read_exact_n.new.ahead.offset c.in-Ended.end
    (coming c.args.ahead.now (g.S.Source.left c.args.source.now))
    (coming c.read_exact_n.new.ahead (g.S.Source.left c.read_exact_n.new.source)) c.read_exact_n.new.into.items
    (omega arith) (rw (c.in-Ended.is, c.from-whole.ensures) at c.in_ok-read_exact_n.ensures.ok)
