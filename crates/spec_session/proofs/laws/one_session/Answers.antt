-- Each session is told by its script, or by the refusal of its grammar.
use Rattle.spec_session.proofs.SessionsLemmas.{one_session}
use Rattle.spec_session.proofs.laws.one_session.Goals as goal

pub returns : goal.returns
returns c = one_session
