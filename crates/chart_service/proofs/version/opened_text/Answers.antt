-- A block is opened by its bytes, or is too long.
use Rattle.std.proofs.Common.{◌∙◌}
use Rattle.chart_service.proofs.SessionLemmas.{kept_opens, long_opens}
use Rattle.chart_service.proofs.version.opened_text.Goals as goal

pub returns-in-Some : goal.returns-in-Some
returns-in-Some g c text given =
    let k = rw c.in-Some.is at given in
    kept_opens (c.args.language.now).lexicon c.in-Some.bytes.now text k.1 c.open.result
    c.open.ensures.bytes (c.open.ensures.tokens (c.args.language.now).lexicon c.automaton.ensures)

pub returns-in-None : goal.returns-in-None
returns-in-None g c text given =
    long_opens (c.args.language.now).lexicon text c.args.count (rw c.in-None.is at given)
