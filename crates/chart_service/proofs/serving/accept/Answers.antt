-- The header and the grammar are taken in turn, and each may be missing; or the grammar is refused.
use Rattle.std.proofs.Common.{ℕ, List, [], Option, Some}
use Rattle.cyk_io.specs.Streams.{coming}
use Rattle.chart_service.specs.declared.ending.EarlyEnd.TheVariants.{Stopped}
use Rattle.chart_service.specs.Progress.{EndsEarly}
use Rattle.chart_service.proofs.ToldLemmas.{err_given}
use Rattle.chart_service.proofs.RunningLemmas.{header_stops, grammar_stops, grammar_refused}
use Rattle.chart_service.proofs.serving.accept.Goals as goal

pub returns-in_err-read_header-clause-err : goal.returns-in_err-read_header-clause-err
returns-in_err-read_header-clause-err g c input before comes =
    let first : Option (List ℕ) = coming c.args.ahead.now (g.S.Source.left c.args.source.now) in
    err_given (EndsEarly input before (Some before) []) (Stopped c.in_err-read_header.field-0.0)
    c.from_residual.result c.from_residual.ensures.1
    (header_stops input before first c.args.ahead.now.offset comes c.requires.start
    c.in_err-read_header.field-0.0 c.in_err-read_header.ensures.err)

pub returns-in_err-block-clause-err : goal.returns-in_err-block-clause-err
returns-in_err-block-clause-err g c input before comes =
    let first : Option (List ℕ) = coming c.args.ahead.now (g.S.Source.left c.args.source.now) in
    let next : Option (List ℕ) = coming c.read_header.new.ahead (g.S.Source.left c.read_header.new.source) in
    err_given (EndsEarly input before (Some before) []) (Stopped c.in_err-block.field-0.0)
    c.from_residual-in_err-block.result c.from_residual-in_err-block.ensures.1
    (grammar_stops input before first next c.args.ahead.now.offset c.read_header.new.ahead.offset comes
    c.requires.start c.in_ok-read_header.ensures.ok c.in_err-block.field-0.0 c.in_err-block.ensures.err)

pub returns-clause-err : goal.returns-clause-err
returns-clause-err g c input before comes =
    let first : Option (List ℕ) = coming c.args.ahead.now (g.S.Source.left c.args.source.now) in
    let next : Option (List ℕ) = coming c.read_header.new.ahead (g.S.Source.left c.read_header.new.source) in
    let later : Option (List ℕ) = coming c.read_grammar.new.ahead (g.S.Source.left c.read_grammar.new.source) in
    let found = c.in_ok-block.ensures.ok in
    grammar_refused input before first next c.args.ahead.now.offset c.read_header.new.ahead.offset comes
    c.requires.start c.in_ok-read_header.ensures.ok later c.read_grammar.new.ahead.offset found.0 found.2
    c.in-Err.fault (c.in-Err.ensures.ok found.0 found.1)
