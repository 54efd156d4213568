-- The header is its line.
use Rattle.std.proofs.Common.{◌≡◌, true, false, refl, sym, ◌∙◌}
use Rattle.std.proofs.lemmas.Result.{err_from_is_err_and}
use Rattle.cyk_io.specs.Streams.{coming}
use Rattle.spec_script.specs.Script.{header, nothing}
use Rattle.script_reader.proofs.ReadingLemmas.{header_taken, other_header, part_range}
use Rattle.script_reader.proofs.reading.read_header.Goals as goal

pub returns-in_err-next_line-clause-err : goal.returns-in_err-next_line-clause-err
returns-in_err-next_line-clause-err g c =
    let p = err_from_is_err_and c.from_residual.result c.from_residual.ensures.1 in
    rw (p.1, p.2) (c.in_err-next_line.ensures.err nothing)

pub returns-then-not-is_header-clause-err : goal.returns-then-not-is_header-clause-err
returns-then-not-is_header-clause-err g c =
    other_header c.args.ahead.now.offset c.next_line.new.ahead.offset
    (coming c.args.ahead.now (g.S.Source.left c.args.source.now))
    (coming c.next_line.new.ahead (g.S.Source.left c.next_line.new.source)) c.next_line.new.line
    c.in_ok-next_line.ensures.ok c.offset-at.result c.offset-at.ensures.offset
    (λ same. let never : false ≡ true = c.if-not-is_header.ensures.1 (c.as_bytes.ensures.bytes ∙ same) in cc)

pub returns-clause-ok : goal.returns-clause-ok
returns-clause-ok g c =
    header_taken c.args.ahead.now.offset c.next_line.new.ahead.offset
    (coming c.args.ahead.now (g.S.Source.left c.args.source.now))
    (coming c.next_line.new.ahead (g.S.Source.left c.next_line.new.source)) c.next_line.new.line
    c.in_ok-next_line.ensures.ok (sym c.as_bytes.ensures.bytes ∙ c.if-not-is_header.ensures.0 refl)

pub returns-clause-range : goal.returns-clause-range
returns-clause-range g c =
    let old = coming c.args.ahead.now (g.S.Source.left c.args.source.now) in
    let new = coming c.next_line.new.ahead (g.S.Source.left c.next_line.new.source) in
    part_range c.args.ahead.now.offset c.next_line.new.ahead.offset old new header
    (header_taken c.args.ahead.now.offset c.next_line.new.ahead.offset old new c.next_line.new.line
    c.in_ok-next_line.ensures.ok (sym c.as_bytes.ensures.bytes ∙ c.if-not-is_header.ensures.0 refl))
