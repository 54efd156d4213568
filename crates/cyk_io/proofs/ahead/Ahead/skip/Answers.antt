use Rattle.std.proofs.Common.{◌∙◌, ◌≤◌, ap, drop, length, subst, sym}
use Rattle.cyk_io.specs.Streams.{ReadAhead}
use Rattle.cyk_io.proofs.AheadLemmas.{window_skipped}
use Rattle.cyk_io.proofs.ahead.Ahead.skip.Goals as goal

pub returns-clause-held : goal.returns-clause-held
returns-clause-held c =
    let IsWithin : ReadAhead → Type 0 = λ ahead. c.args.count ≤ length ahead.held in
    let fields = c.self.inside in
    window_skipped fields.buffer fields.start fields.end c.args.count (subst IsWithin (sym c.self.view_is) c.requires.held) ∙ ap (λ ahead. drop c.args.count ahead.held) c.self.view_is
