-- A grammar that is refused is not accepted, and one line refuses it.
use Rattle.spec_session.proofs.SessionsLemmas.{refusal_is_all}
use Rattle.spec_session.proofs.laws.refusal_is_all.Goals as goal

pub returns : goal.returns
returns c = refusal_is_all
