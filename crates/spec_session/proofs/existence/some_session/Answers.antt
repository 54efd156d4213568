use Rattle.spec_session.proofs.ExistenceLemmas.{some_session}
use Rattle.spec_session.proofs.existence.some_session.Goals as goal

pub returns : goal.returns
returns c = some_session
