-- An edit by a block's bytes is made or refused as the text store does it; one by a block that is too
-- long is refused for the numbers alone.
use Rattle.std.proofs.Common.{arith}
use Rattle.std.proofs.lemmas.Result.{err_from_is_err_and}
use Rattle.chart_service.proofs.SessionLemmas.{kept_refused, kept_edits, long_edits}
use Rattle.chart_service.proofs.version.edited_text.Goals as goal

pub returns-in_err-changed-in-Some : goal.returns-in_err-changed-in-Some
returns-in_err-changed-in-Some g c inserted given =
    let p = err_from_is_err_and c.from_residual.result c.from_residual.ensures.1 in
    let k = rw c.in-Some.is at given in
    rw (p.1, p.2)
    (kept_refused (c.args.language.now).lexicon c.args.text.now.bytes c.args.at c.args.deleted
    c.in-Some.bytes.now inserted k.1 c.in_err-changed-in-Some.field-0.0
    c.in_err-changed-in-Some.ensures.bytes
    (c.in_err-changed-in-Some.ensures.tokens (c.args.language.now).lexicon c.automaton.ensures))

pub returns-in-None : goal.returns-in-None
returns-in-None g c inserted given =
    let k = rw c.in-None.is at given in
    let long = c.long_fault.ensures in
    long_edits (c.args.language.now).lexicon c.args.text.now.bytes c.args.at c.args.deleted inserted long.0
    c.long_fault.result long.1 long.2 (omega (arith, k.0, k.1))
