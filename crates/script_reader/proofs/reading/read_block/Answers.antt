-- A block that is too long is known by its length.
use Rattle.std.proofs.Common.{arith}
use Rattle.cyk_io.specs.Streams.{coming}
use Rattle.script_reader.proofs.LinesAndBlocksLemmas.{finds_passed}
use Rattle.script_reader.proofs.reading.read_block.Goals as goal

pub returns-then-count-most-clause-ok : goal.returns-then-count-most-clause-ok
returns-then-count-most-clause-ok g c =
    finds_passed c.args.most c.args.count c.args.ahead.now.offset c.pass_block.new.ahead.offset
    (coming c.args.ahead.now (g.S.Source.left c.args.source.now))
    (coming c.pass_block.new.ahead (g.S.Source.left c.pass_block.new.source))
    (omega (arith, c.if-count-most.true)) c.in_ok-pass_block.ensures.ok
