-- A grammar is a line with a count and the block behind it.
use Rattle.std.proofs.lemmas.Result.{IfOk-weaker, IfErr-weaker}
use Rattle.cyk_io.specs.Streams.{coming}
use Rattle.spec_script.specs.Script.{grammar}
use Rattle.script_reader.proofs.ReadingLemmas.{grammar_stops, grammar_taken, part_range}
use Rattle.script_reader.proofs.reading.read_grammar.Goals as goal

pub returns-clause-ok : goal.returns-clause-ok
returns-clause-ok g c =
    IfOk-weaker c.read_block.result _ _
    (λ known h. grammar_taken c.args.ahead.now.offset (coming c.args.ahead.now (g.S.Source.left c.args.source.now))
    c.read_grammar_line.new.ahead.offset (coming c.read_grammar_line.new.ahead (g.S.Source.left c.read_grammar_line.new.source))
    c.in_ok-count.count c.in_ok-count.ensures.ok
    c.read_block.new.ahead.offset (coming c.read_block.new.ahead (g.S.Source.left c.read_block.new.source)) known h)
    c.read_block.ensures.ok

pub returns-clause-err : goal.returns-clause-err
returns-clause-err g c =
    IfErr-weaker c.read_block.result _ _
    (λ stop h. grammar_stops c.args.ahead.now.offset (coming c.args.ahead.now (g.S.Source.left c.args.source.now))
    c.read_grammar_line.new.ahead.offset (coming c.read_grammar_line.new.ahead (g.S.Source.left c.read_grammar_line.new.source))
    c.in_ok-count.count c.in_ok-count.ensures.ok stop h)
    c.read_block.ensures.err

pub returns-clause-range : goal.returns-clause-range
returns-clause-range g c =
    let old = coming c.args.ahead.now (g.S.Source.left c.args.source.now) in
    let new = coming c.read_block.new.ahead (g.S.Source.left c.read_block.new.source) in
    IfOk-weaker c.read_block.result _ _
    (λ known h. let taken = grammar_taken c.args.ahead.now.offset old
    c.read_grammar_line.new.ahead.offset (coming c.read_grammar_line.new.ahead (g.S.Source.left c.read_grammar_line.new.source))
    c.in_ok-count.count c.in_ok-count.ensures.ok
    c.read_block.new.ahead.offset new known h in
    part_range c.args.ahead.now.offset c.read_block.new.ahead.offset old new (grammar taken.0) taken.2)
    c.read_block.ensures.ok
