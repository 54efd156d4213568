-- The version that is kept is of the text, and the next one.
use Rattle.chart_service.proofs.SessionLemmas.{version_kept, tokens_here, next_is}
use Rattle.chart_service.proofs.session.Session.put.Goals as goal

pub invariant_of-self : goal.invariant_of-self
invariant_of-self g c =
    let language = c.self.inside.language in
    let own = tokens_here language c.self.inside.current c.args.self.now c.self.view_is c.args.text c.requires.tokens in (
      c.self.invariant.0,
      version_kept language c.next_number-number.result c.args.text c.in_ok-version.version c.self.invariant.0.names
          own c.in_ok-version.ensures,
    )

pub returns-clause-ok : goal.returns-clause-ok
returns-clause-ok g c =
    next_is c.self.inside.language c.self.inside.current c.args.self.now c.self.view_is c.next_number-number.result
    c.token_count-tokens.result c.args.text c.in_ok-version.version c.in_ok-version.ensures
    c.next_number-number.ensures c.token_count-tokens.ensures
